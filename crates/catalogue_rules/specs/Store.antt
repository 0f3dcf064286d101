-- A field at a place of a state, and a record, rows and a state with another in its place.
use Rattle.std.specs.Prelude.{◌≡◌, ℕ, ◌<◌, true, List, map, length, slice_get, slice_set, if◌then◌else◌, Option}
use Rattle.std.specs.Option.{option_and_then}
use Rattle.marc_types.specs.Valid.{is_record}
use Rattle.marc_types.specs.declared.field.Field.{Field}
use Rattle.marc_types.specs.declared.key.Class.{Class}
use Rattle.marc_types.specs.declared.key.Class.TheVariants.{Authority, Bibliographic}
use Rattle.marc_types.specs.declared.key.Key.{Key}
use Rattle.marc_types.specs.declared.key.Place.{Place}
use Rattle.marc_types.specs.Order.{same_key}
use Rattle.iso2709_record.specs.Written.{fits}
use Rattle.catalogue_rules.specs.State.{KeptField, KeptRecord, Row, State, fields_of}
use Rattle.catalogue_rules.specs.Receipt.{kept_under}

-- the state with other rows of one class
abbrev pub with_rows : Class → List Row → State → State
with_rows Authority rows s = record { authorities = rows; bibliographic = s.bibliographic }
with_rows Bibliographic rows s = record { authorities = s.authorities; bibliographic = rows }

-- a record with another field and tie at one place
abbrev pub with_field : ℕ → KeptField → KeptRecord → KeptRecord
with_field place h r = record { leader = r.leader; fields = slice_set r.fields place h }

-- a record stays one with the field at that place, where it has the place
abbrev pub StaysRecord : ℕ → Field → KeptRecord → Type 0
StaysRecord place field r = place < length r.fields → is_record r.leader (slice_set (fields_of r) place field) ≡ true

-- a record fits its written form with the field at that place, where it has the place
abbrev pub StaysFit : ℕ → Field → KeptRecord → Type 0
StaysFit place field r = place < length r.fields → fits (slice_set (fields_of r) place field) ≡ true

-- the field and tie at a place, where there is one
abbrev pub field_at : ℕ → KeptRecord → Option KeptField
field_at place r = slice_get r.fields place

-- the field and tie at a place of a state, where there is one
abbrev pub field_under : Place → State → Option KeptField
field_under place s = option_and_then (field_at place.field) (kept_under place.class place.key s)

-- the record under a key with another field and tie at one place; the other rows stay
abbrev pub with_field_under : Key → ℕ → KeptField → List Row → List Row
with_field_under key place h rows = map (λ row. if same_key key row.0 then (row.0, with_field place h row.1) else row) rows
