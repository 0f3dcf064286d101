-- What clauses see of a numbered store: the state of a catalogue, and the keys of each class by their numbers.
use Rattle.std.specs.Prelude.{◌≡◌, ℕ, ◌<◌, List, [], length, slice_get, Option, IfSome}
use Rattle.std.specs.Option.{option_and_then}
use Rattle.marc_types.specs.declared.field.Field.{Field}
use Rattle.marc_types.specs.declared.key.Class.{Class}
use Rattle.marc_types.specs.declared.key.Class.TheVariants.{Authority, Bibliographic}
use Rattle.marc_types.specs.declared.key.Key.{Key}
use Rattle.marc_types.specs.Order.{same_key}
use Rattle.numbering.specs.declared.seat.Seat.{Seat}
use Rattle.numbering.specs.Numbers.{with_thing}
use Rattle.catalogue_rules.specs.State.{KeptField, KeptRecord, State, empty_state, rows_of}
use Rattle.catalogue_rules.specs.Store.{StaysFit, StaysRecord, field_at, with_rows}
use Rattle.numbered_store.specs.Rows.{Shelved, row_under, with_row, with_row_field}

-- the keys of each class; a key's number is its place in the list
pub record KeyNumbers : Type 0 where
  pub authorities : List Key
  pub bibliographic : List Key

-- the keys of a class, in the order of their numbers
abbrev pub keys_in : Class → KeyNumbers → List Key
keys_in Authority keys = keys.authorities
keys_in Bibliographic keys = keys.bibliographic

-- a state, and the keys of each class by their numbers
pub record Numbered : Type 0 where
  pub state : State
  pub keys : KeyNumbers

-- no record, and no key with a number
abbrev pub empty_numbered : Numbered
empty_numbered = record { state = empty_state; keys = record { authorities = []; bibliographic = [] } }

-- the state that two shelves are, one of each class
abbrev pub numbered : Shelved → Shelved → Numbered
numbered authorities bibliographic = record {
  state = record { authorities = authorities.rows; bibliographic = bibliographic.rows };
  keys = record { authorities = authorities.keys; bibliographic = bibliographic.keys };
}

-- the key that has the number
abbrev pub key_at : Class → ℕ → Numbered → Option Key
key_at class number s = slice_get (keys_in class s.keys) number

-- the number is a key's
abbrev pub IsNumber : Class → ℕ → Numbered → Type 0
IsNumber class number s = number < length (keys_in class s.keys)

-- the record under the key that has the number
abbrev pub record_at : Class → ℕ → Numbered → Option KeptRecord
record_at class number s = row_under (key_at class number s) (rows_of class s.state)

-- the field and tie at a seat
abbrev pub field_of : Seat → Numbered → Option KeptField
field_of seat s = option_and_then (field_at seat.field) (record_at seat.class seat.number s)

-- with this field at the seat the record there stays one, and fits its written form
pub record SuitsSeat (seat : Seat) (field : Field) (s : Numbered) : Type 0 where
  pub stays : IfSome (record_at seat.class seat.number s) (StaysRecord seat.field field)
  pub fits : IfSome (record_at seat.class seat.number s) (StaysFit seat.field field)

-- the keys with one more of a class, where it has no number yet
abbrev pub with_key : Class → Key → KeyNumbers → KeyNumbers
with_key Authority key keys = record { authorities = with_thing same_key keys.authorities key; bibliographic = keys.bibliographic }
with_key Bibliographic key keys = record { authorities = keys.authorities; bibliographic = with_thing same_key keys.bibliographic key }

-- the key has a number then; no record changes
abbrev pub with_number : Class → Key → Numbered → Numbered
with_number class key s = record { state = s.state; keys = with_key class key s.keys }

-- another record, or none, under the key that has the number
abbrev pub with_record : Class → ℕ → Option KeptRecord → Numbered → Numbered
with_record class number r s = record {
  state = with_rows class (with_row (key_at class number s) r (rows_of class s.state)) s.state;
  keys = s.keys;
}

-- another field and tie at a seat
abbrev pub with_field_of : Seat → KeptField → Numbered → Numbered
with_field_of seat h s = record {
  state = with_rows seat.class (with_row_field (key_at seat.class seat.number s) seat.field h (rows_of seat.class s.state)) s.state;
  keys = s.keys;
}

-- more keys may have numbers; each number stands for the key that it stood for, and no record differs
pub record Grows (old new : Numbered) : Type 0 where
  pub state : new.state ≡ old.state
  pub longer : (class : Class) (number : ℕ) → IsNumber class number old → IsNumber class number new
  pub same_key : (class : Class) (number : ℕ) → IsNumber class number old → key_at class number new ≡ key_at class number old
