-- A record exchanged for itself with another field is that field exchanged, in both classes.
use Rattle.std.proofs.Common.{◌≡◌, refl, ap, ℕ, List, Option, Some, None}
use Rattle.std.specs.Map.{lookup}
use Rattle.marc_types.specs.Order.{same_key}
use Rattle.marc_types.specs.declared.key.Class.{Class}
use Rattle.marc_types.specs.declared.key.Class.TheVariants.{Authority, Bibliographic}
use Rattle.marc_types.specs.declared.key.Key.{Key}
use Rattle.numbering.specs.declared.seat.Seat.{Seat}
use Rattle.catalogue_rules.specs.State.{KeptField, KeptRecord, Row, rows_of}
use Rattle.catalogue_rules.specs.Store.{with_field, with_rows}
use Rattle.numbered_store.specs.Numbered.{Numbered, key_at, numbered, record_at, with_field_of, with_record}
use Rattle.numbered_store.specs.Rows.{Shelved, row_under, with_row, with_row_field}

abbrev pub FieldsChange : Shelved → Type 0
FieldsChange x = (key : Key) (place : ℕ) (h : KeptField) (r : KeptRecord) → lookup (same_key key) x.rows ≡ Some r
    → with_row (Some key) (Some (with_field place h r)) x.rows ≡ with_row_field (Some key) place h x.rows

abbrev pub FieldsChangeAtSeats : Numbered → Type 0
FieldsChangeAtSeats s = (seat : Seat) (h : KeptField) (r : KeptRecord) → record_at seat.class seat.number s ≡ Some r
    → with_record seat.class seat.number (Some (with_field seat.field h r)) s ≡ with_field_of seat h s

-- where there is no key, nothing changes
at_key : (x : Shelved) → FieldsChange x → (key : Option Key) (place : ℕ) (h : KeptField) (r : KeptRecord) → row_under key x.rows ≡ Some r
    → with_row key (Some (with_field place h r)) x.rows ≡ with_row_field key place h x.rows
at_key x change None place h r stood = refl
at_key x change (Some key) place h r stood = change key place h r stood

abbrev with_class : Class → List Row → Numbered → Numbered
with_class class rows s = record { state = with_rows class rows s.state; keys = s.keys }

at_number : (x y : Shelved) → FieldsChange x → FieldsChange y → (class : Class) (number place : ℕ) (h : KeptField) (r : KeptRecord) → record_at class number (numbered x y) ≡ Some r
    → with_record class number (Some (with_field place h r)) (numbered x y)
    ≡ with_class class (with_row_field (key_at class number (numbered x y)) place h (rows_of class (numbered x y).state)) (numbered x y)
at_number x y first second Authority number place h r stood =
    ap (λ (rows : List Row). with_class Authority rows (numbered x y)) (at_key x first (key_at Authority number (numbered x y)) place h r stood)
at_number x y first second Bibliographic number place h r stood =
    ap (λ (rows : List Row). with_class Bibliographic rows (numbered x y)) (at_key y second (key_at Bibliographic number (numbered x y)) place h r stood)

pub changes_in : (x y : Shelved) → FieldsChange x → FieldsChange y → FieldsChangeAtSeats (numbered x y)
changes_in x y first second = λ seat h r stood. at_number x y first second seat.class seat.number seat.field h r stood
