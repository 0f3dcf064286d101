-- A field that changes in its record: the record, exchanged for itself with another field, is that field exchanged.
use Rattle.std.specs.Prelude.{◌≡◌, ℕ, List, Some}
use Rattle.std.specs.Map.{lookup}
use Rattle.marc_types.specs.Order.{same_key}
use Rattle.marc_types.specs.declared.key.Key.{Key}
use Rattle.numbering.specs.declared.seat.Seat.{Seat}
use Rattle.catalogue_rules.specs.State.{KeptField, KeptRecord, Row}
use Rattle.catalogue_rules.specs.Store.{with_field}
use Rattle.numbered_store.specs.Numbered.{Numbered, record_at, with_field_of, with_record}
use Rattle.numbered_store.specs.Rows.{with_row, with_row_field}

-- so it is of the record under a key, in the rows of a class
abbrev pub ChangesByRow : List Row → Key → ℕ → KeptField → KeptRecord → Type 0
ChangesByRow rows key place h r = lookup (same_key key) rows ≡ Some r
    → with_row (Some key) (Some (with_field place h r)) rows ≡ with_row_field (Some key) place h rows

-- and of the record of a seat
abbrev pub ChangesByRecord : Numbered → Seat → KeptField → KeptRecord → Type 0
ChangesByRecord s seat h r = record_at seat.class seat.number s ≡ Some r
    → with_record seat.class seat.number (Some (with_field seat.field h r)) s ≡ with_field_of seat h s
