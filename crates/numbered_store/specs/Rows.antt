-- Rows made of keys and slots side by side: a key's slot holds its record, or is blank.
use Rattle.std.specs.Prelude.{◌≡◌, ℕ, true, List, [], ◌∷◌, length, map, slice_get, Option, Some, None}
use Rattle.std.specs.List.{IsDistinct}
use Rattle.std.specs.Map.{lookup, remove_entry}
use Rattle.std.specs.Option.{option_and_then, option_map}
use Rattle.std.specs.BTreeMap.{insert_entry}
use Rattle.marc_types.specs.Valid.{is_record}
use Rattle.marc_types.specs.declared.key.Key.{Key}
use Rattle.marc_types.specs.Order.{key_cmp, same_key}
use Rattle.catalogue_rules.specs.State.{KeptField, KeptRecord, Row, fields_of}
use Rattle.catalogue_rules.specs.Store.{with_field_under}
use Rattle.numbered_store.specs.Kept.{kept_record}
use Rattle.numbered_store.specs.declared.kept.StoredRecord.{StoredRecord}

-- the keys whose slot isn't blank, each with what it holds
abbrev pub present : {V : Type 0} → List Key → List (Option V) → List (Key × V)
present [] slots = []
present (key ∷ keys) [] = []
present (key ∷ keys) (None ∷ slots) = present keys slots
present (key ∷ keys) (Some value ∷ slots) = (key, value) ∷ present keys slots

-- what the slot with a number holds; a number past the slots has none
abbrev pub slot_at : {V : Type 0} → List (Option V) → ℕ → Option V
slot_at slots number = option_and_then (λ slot. slot) (slice_get slots number)

-- rows, put into key order one by one
abbrev pub in_key_order : {V : Type 0} → List (Key × V) → List (Key × V)
in_key_order [] = []
in_key_order (row ∷ rows) = insert_entry key_cmp (in_key_order rows) row.0 row.1

-- keys by their numbers, and the rows of the records that are kept under some of them, in key order
pub record Shelved : Type 0 where
  pub keys : List Key
  pub rows : List Row

-- each slot as a state has it
abbrev pub slot_records : List (Option StoredRecord) → List (Option KeptRecord)
slot_records slots = map (option_map kept_record) slots

-- the rows of a shelf with these keys and slots, and how many they are
abbrev pub rows_by : List Key → List (Option StoredRecord) → List Row
rows_by keys slots = in_key_order (present keys (slot_records slots))

-- how many records stand
abbrev pub count_in : List Key → List (Option StoredRecord) → ℕ
count_in keys slots = length (present keys (slot_records slots))

-- the keys and the rows of one class
abbrev pub shelved : List Key → List (Option StoredRecord) → Shelved
shelved keys slots = record { keys = keys; rows = rows_by keys slots }

-- the rows with that of a slot put in, if it has one
abbrev pub with_slot : Option Key → Option StoredRecord → List Row → List Row
with_slot None slot rows = rows
with_slot (Some key) None rows = rows
with_slot (Some key) (Some kept) rows = insert_entry key_cmp rows key (kept_record kept)

-- each key has a slot, and no key has two
pub record HaveSlots (keys : List Key) (slots : List (Option StoredRecord)) : Type 0 where
  pub long : length slots ≡ length keys
  pub once : IsDistinct same_key keys

-- a kept record is a MARC record
abbrev pub IsProper : KeptRecord → Type 0
IsProper r = is_record r.leader (fields_of r) ≡ true

-- the record under a key; there is none where there is no key
abbrev pub row_under : Option Key → List Row → Option KeptRecord
row_under key rows = option_and_then (λ key. lookup (same_key key) rows) key

-- the rows with another record, or none, under a key; where there is no key they stay
abbrev pub with_row : Option Key → Option KeptRecord → List Row → List Row
with_row None r rows = rows
with_row (Some key) None rows = remove_entry (same_key key) rows
with_row (Some key) (Some r) rows = insert_entry key_cmp rows key r

-- the rows with another field and tie at one place of the record under a key
abbrev pub with_row_field : Option Key → ℕ → KeptField → List Row → List Row
with_row_field None place h rows = rows
with_row_field (Some key) place h rows = with_field_under key place h rows
