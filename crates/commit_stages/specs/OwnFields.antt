-- The fields of the record that was committed, which are settled in turn.
use Rattle.std.specs.Prelude.{◌≡◌, ℕ, zero, suc, List, [], ◌∷◌, ◌++◌, map, Some}
use Rattle.std.specs.List.{sum_by}
use Rattle.std.specs.Option.{option_map, option_map_or}
use Rattle.marc_types.specs.declared.field.Field.{Field}
use Rattle.marc_types.specs.declared.key.Class.{Class}
use Rattle.marc_types.specs.declared.key.Key.{Key}
use Rattle.entry_record.specs.Authority.{Linkable}
use Rattle.numbering.specs.declared.seat.Seat.{Seat}
use Rattle.catalogue_rules.specs.State.{KeptRecord, State, fields_of, linkable_authorities, new_field, rows_of}
use Rattle.linking_laws.specs.Middle.{IsMiddleWith}
use Rattle.linking_laws.specs.Stages.{settle_own}
use Rattle.linking_laws.specs.Visits.{own_row_visits}
use Rattle.linked_store.specs.Linked.{IsAhead, Linked, key_of, record_at}

-- the record under the key that has the number has these fields as they came: with no link, and nothing awaited
abbrev pub HasFieldsAsCame : Class → ℕ → List Field → Linked → Type 0
HasFieldsAsCame class number fields x = option_map (λ (r : KeptRecord). r.fields) (record_at class number x) ≡ Some (map new_field fields)

-- the fields of the record under the key that has the number; none where there is no record
abbrev pub fields_in : Class → ℕ → Linked → List Field
fields_in class number x = option_map_or fields_of (record_at class number x) []

-- that record has its fields as they came
abbrev pub AreAsCame : Class → ℕ → Linked → Type 0
AreAsCame class number x = HasFieldsAsCame class number (fields_in class number x) x

-- a seat of the record under the key that has the number
abbrev pub own_seat : Class → ℕ → ℕ → Seat
own_seat class number field = record { class = class; number = number; field = field }

-- its first seats, in turn
abbrev pub own_seats : Class → ℕ → ℕ → List Seat
own_seats class number zero = []
own_seats class number (suc n) = own_seats class number n ++ own_seat class number n ∷ []

-- the fields of the record of the class under the key are settled, and no others
pub record IsOwnSettled (all : List Linkable) (class : Class) (key : Key) (old new : Linked) : Type 0 where
  pub ahead : IsAhead old new
  pub state : new.state ≡ settle_own all class key old.state
  pub middle : IsMiddleWith all new.state

-- the visits that settling these fields takes
abbrev pub own_visits_of : List Linkable → Class → Key → State → ℕ
own_visits_of all class key s = sum_by (own_row_visits all class key) (rows_of class s)

-- of the record of the class under the key that has the number
abbrev pub own_visits_in : Class → ℕ → Linked → ℕ
own_visits_in class number x = own_visits_of (linkable_authorities x.state) class (key_of class number x.keys) x.state
