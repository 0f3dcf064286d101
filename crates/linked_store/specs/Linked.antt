-- What clauses see of a linked store: the state of a catalogue with its keys by their numbers, and the states to which it can go
-- back. Its tables agree with the state by its type, and so no clause speaks of them.
use Rattle.std.specs.Prelude.{◌≡◌, ℕ, ◌<◌, Bool, true, List, [], length, map, Option, IfSome, IsSome}
use Rattle.std.specs.List.{AllByRecursion}
use Rattle.marc_types.specs.declared.key.Class.{Class}
use Rattle.marc_types.specs.declared.key.Class.TheVariants.{Authority}
use Rattle.marc_types.specs.declared.key.Key.{Key}
use Rattle.marc_types.specs.declared.key.Place.{Place}
use Rattle.marc_types.specs.Fields.{tag_of}
use Rattle.heading_fields.specs.Tables.{is_subdividable}
use Rattle.numbering.specs.declared.seat.Seat.{Seat}
use Rattle.catalogue_rules.specs.State.{KeptField, KeptRecord, State, empty_state}
use Rattle.catalogue_rules.specs.Receipt.{kept_under}
use Rattle.catalogue_rules.specs.Store.{StaysFit, StaysRecord, field_under}
use Rattle.linking_laws.specs.Partway.{IsSteady}
use Rattle.linking_laws.specs.Tables.{IsListing}
use Rattle.form_index.specs.Order.{key_at}
use Rattle.catalogue_tables.specs.Seam.{HasKey, KeyLists, KeysKeep, keys_in, place_at}

-- a state, the keys by their numbers, and the states to which it can go back
pub record Linked : Type 0 where
  pub state : State
  -- the keys of each class, in the order of their numbers
  pub keys : KeyLists
  -- the state at the mark, and the one before all changes that aren't kept yet
  pub marked : State
  pub before : State

-- no key has a number
abbrev pub no_keys : KeyLists
no_keys = record { authorities = []; bibliographic = [] }

-- no record, and no key with a number
abbrev pub empty_linked : Linked
empty_linked = record { state = empty_state; keys = no_keys; marked = empty_state; before = empty_state }

-- the number is a key's
abbrev pub IsNumber : Class → ℕ → KeyLists → Type 0
IsNumber class number keys = number < length (keys_in class keys)

-- the key that has the number
abbrev pub key_of : Class → ℕ → KeyLists → Key
key_of class number keys = key_at (keys_in class keys) number

-- the record under the key that has the number
abbrev pub record_at : Class → ℕ → Linked → Option KeptRecord
record_at class number x = kept_under class (key_of class number x.keys) x.state

-- the field and tie at a seat
abbrev pub field_of : Seat → Linked → Option KeptField
field_of seat x = field_under (place_at x.keys seat) x.state

-- More keys may have numbers. Each number stands for its key, and each seat for its place.
pub record KeysGrow (old new : KeyLists) : Type 0 where
  pub keep : KeysKeep old new
  pub seats : (seat : Seat) → HasKey old seat → HasKey new seat
  pub places : (seat : Seat) → HasKey old seat → place_at new seat ≡ place_at old seat

-- the ways back lead where they led, and each seat stands for its place
pub record IsAhead (old new : Linked) : Type 0 where
  pub keys : KeysGrow old.keys new.keys
  pub marked : new.marked ≡ old.marked
  pub before : new.before ≡ old.before

-- all is as it was, but that there may be more numbers of keys
pub record IsUnchanged (old new : Linked) : Type 0 where
  pub ahead : IsAhead old new
  pub state : new.state ≡ old.state

-- A field and a tie may come to the seat: a field stands there, its record stays one and fits its written form, an authority keeps
-- its heading and its tracings, and only a field that takes subdivisions is whole.
pub record SuitsSeat (seat : Seat) (h : KeptField) (x : Linked) : Type 0 where
  pub known : HasKey x.keys seat
  pub stands : IsSome (field_of seat x)
  pub stays : IfSome (record_at seat.class seat.number x) (StaysRecord seat.field h.field)
  pub fits : IfSome (record_at seat.class seat.number x) (StaysFit seat.field h.field)
  pub steady : seat.class ≡ Authority → IfSome (field_of seat x) (λ old. IsSteady old h)
  pub whole : h.tie.whole ≡ true → is_subdividable seat.class (tag_of h.field) ≡ true

-- the seats of all places that pass the test, each once
pub record ListsSeats (keys : KeyLists) (test : Place → Bool) (seats : List Seat) : Type 0 where
  pub known : AllByRecursion (HasKey keys) seats
  pub places : IsListing test (map (place_at keys) seats)
