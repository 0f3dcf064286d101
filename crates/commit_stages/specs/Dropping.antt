-- The links to an authority that a commit ends, and what dropping makes of one field.
use Rattle.std.specs.Prelude.{◌≡◌, ℕ, Bool, true, false, List, Option, Some, None}
use Rattle.std.specs.Option.{option_copied}
use Rattle.marc_types.specs.Valid.{is_field}
use Rattle.marc_types.specs.declared.key.Class.{Class}
use Rattle.marc_types.specs.declared.key.Key.{Key}
use Rattle.marc_types.specs.declared.key.Place.{Place}
use Rattle.entry_record.specs.Authority.{Linkable}
use Rattle.numbering.specs.declared.seat.Seat.{Seat}
use Rattle.catalogue_rules.specs.State.{KeptField}
use Rattle.catalogue_tables.specs.Seam.{place_at}
use Rattle.linking_laws.specs.Middle.{CanDropOn}
use Rattle.linking_laws.specs.Partway.{is_place_among}
use Rattle.linking_laws.specs.Stages.{Dropping, DropAll, DropBases, drop_by}
use Rattle.linking_laws.specs.Visits.{drop_visits_by}
use Rattle.field_settling.specs.Held.{held_as}
use Rattle.field_settling.specs.declared.held.Held.{Held}
use Rattle.linked_store.specs.Linked.{Linked}
use Rattle.commit_stages.specs.declared.ending.EndingLinks.{EndingLinks}

-- all links end, or only those by the base
abbrev pub dropping_as : Bool → Dropping
dropping_as true = DropBases
dropping_as false = DropAll

-- which links end
abbrev pub dropping_of : EndingLinks → Dropping
dropping_of links = dropping_as links.only_base

-- what the fields then await, where there is a successor
abbrev pub successor_to : EndingLinks → Option Key
successor_to links = option_copied links.successor

-- what dropping these links makes of a field, over these authorities
abbrev pub drop_ending : EndingLinks → List Linkable → Class → KeptField → KeptField
drop_ending links all = drop_by (dropping_of links) all links.key.now (successor_to links)

-- how many visits it takes
abbrev pub ending_visits : EndingLinks → List Linkable → Class → KeptField → ℕ
ending_visits links all = drop_visits_by (dropping_of links) all links.key.now (successor_to links)

-- what a stage makes of a field, which is one as records have them where the field is
pub record IsChanged (change : Class → KeptField → KeptField) (class : Class) (h made : KeptField) : Type 0 where
  pub made_is : made ≡ change class h
  pub proper : is_field h.field ≡ true → is_field made.field ≡ true

-- none stands for the field that is there
abbrev pub IsChangedTo : (Class → KeptField → KeptField) → Class → KeptField → Option Held → Type 0
IsChangedTo change class h None = change class h ≡ h
IsChangedTo change class h (Some held) = IsChanged change class h (held_as held)

-- Dropping has come so far that the seat is one that isn't done yet.
pub record IsDropTurn (d : Dropping) (key : Key) (seat : Seat) (x : Linked) : Type 0 where
  pub done : List Place
  pub can : CanDropOn d key done x.state
  pub is_new : is_place_among done (place_at x.keys seat) ≡ false
