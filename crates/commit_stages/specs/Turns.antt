-- A stage of a commit in code: seat after seat, in any order, the field that stands there is exchanged for what the stage makes of it.
use Rattle.std.specs.Prelude.{◌≡◌, ℕ, ◌+◌, ◌≤◌, Bool, true, List, map, Option, Some, None}
use Rattle.std.specs.List.{sum_by}
use Rattle.marc_types.specs.declared.key.Class.{Class}
use Rattle.marc_types.specs.declared.key.Key.{Key}
use Rattle.entry_record.specs.Authority.{Linkable}
use Rattle.numbering.specs.declared.seat.Seat.{Seat}
use Rattle.catalogue_rules.specs.State.{KeptField, each_field, linkable_authorities}
use Rattle.catalogue_tables.specs.Seam.{HasKey, place_at}
use Rattle.linking_laws.specs.Middle.{CanDropOn, IsMiddleWith}
use Rattle.linking_laws.specs.Stages.{Dropping, drop_by}
use Rattle.linking_laws.specs.Partway.{IsPartway, swapped}
use Rattle.linking_laws.specs.Tables.{holds_at}
use Rattle.linking_laws.specs.Weights.{number_at}
use Rattle.field_settling.specs.Held.{held_as}
use Rattle.field_settling.specs.declared.held.Held.{Held}
use Rattle.linked_store.specs.Linked.{IsAhead, Linked, SuitsSeat, field_of}

-- the stage has been carried out at these seats and nowhere else, with the authorities that there are
pub record IsOnTheWay (all : List Linkable) (change : Class → KeptField → KeptField) (done : List Seat) (old now : Linked) : Type 0 where
  pub ahead : IsAhead old now
  pub partway : IsPartway change (map (place_at old.keys) done) old.state now.state
  pub middle : IsMiddleWith all now.state

-- the seat's field is exchanged for another
pub record IsExchanged (seat : Seat) (h : KeptField) (old new : Linked) : Type 0 where
  pub ahead : IsAhead old new
  pub state : new.state ≡ swapped (place_at old.keys seat) h old.state

-- the stage was carried out everywhere
pub record IsCarriedOut (all : List Linkable) (change : Class → KeptField → KeptField) (old new : Linked) : Type 0 where
  pub ahead : IsAhead old new
  pub state : new.state ≡ each_field change old.state
  pub middle : IsMiddleWith all new.state

-- the same with the authorities that there were before
abbrev pub CarriesOut : (Class → KeptField → KeptField) → Linked → Linked → Type 0
CarriesOut change old new = IsCarriedOut (linkable_authorities old.state) change old new

-- Links to a key, and what waits for it, have been dropped at these seats and nowhere else; a link that isn't dropped yet needn't be
-- allowed.
pub record IsDropping (d : Dropping) (key : Key) (successor : Option Key) (done : List Seat) (old now : Linked) : Type 0 where
  pub ahead : IsAhead old now
  pub partway : IsPartway (drop_by d (linkable_authorities old.state) key successor) (map (place_at old.keys) done) old.state now.state
  pub can_go_on : CanDropOn d key (map (place_at old.keys) done) now.state
  pub authorities_stay : linkable_authorities now.state ≡ linkable_authorities old.state

-- ---- one turn

-- the seat's field passes the test by which its place was listed
pub record IsToDo (test : Class → KeptField → Bool) (seat : Seat) (x : Linked) : Type 0 where
  pub known : HasKey x.keys seat
  pub passes : holds_at test x.state (place_at x.keys seat) ≡ true

-- what the stage makes of the seat's field, which may come to the seat
pub record IsMade (change : Class → KeptField → KeptField) (seat : Seat) (x : Linked) (made : KeptField) : Type 0 where
  pub made_is : (h : KeptField) → field_of seat x ≡ Some h → made ≡ change seat.class h
  pub suits : SuitsSeat seat made x

-- what the stage makes of the seat's field, where that differs
abbrev pub IsMadeOf : (Class → KeptField → KeptField) → Seat → Linked → Option Held → Type 0
IsMadeOf change seat x None = (h : KeptField) → field_of seat x ≡ Some h → change seat.class h ≡ h
IsMadeOf change seat x (Some held) = IsMade change seat x (held_as held)

-- the seat's field is exchanged for what the stage makes of it
pub record IsTurned (change : Class → KeptField → KeptField) (seat : Seat) (old new : Linked) : Type 0 where
  pub ahead : IsAhead old new
  pub state : (h : KeptField) → field_of seat old ≡ Some h → new.state ≡ swapped (place_at old.keys seat) (change seat.class h) old.state

-- ---- visits

-- how many visits the field at a seat takes
abbrev pub visits_at : (Class → KeptField → ℕ) → Linked → Seat → ℕ
visits_at visits x seat = number_at visits x.state (place_at x.keys seat)

-- from so many steps on, no more visits than the fields at these seats take
abbrev pub AreWithinVisits : (Class → KeptField → ℕ) → Linked → List Seat → ℕ → ℕ → Type 0
AreWithinVisits visits x seats before now = now ≤ before + sum_by (visits_at visits x) seats
