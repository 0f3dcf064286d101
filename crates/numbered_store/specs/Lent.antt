-- Ties and rows as they are lent.
use Rattle.std.specs.Prelude.{◌≡◌, List, map}
use Rattle.std.specs.Borrow.{Bor}
use Rattle.marc_types.specs.declared.entry.Tie.{Tie}
use Rattle.marc_types.specs.declared.key.Key.{Key}
use Rattle.catalogue_rules.specs.State.{KeptRecord, Row, fields_of, new_field}
use Rattle.numbered_store.specs.Kept.{shown_row}
use Rattle.numbered_store.specs.declared.kept.StoredRecord.{StoredRecord}

-- no field of a record has a tie
abbrev pub HasNoTies : KeptRecord → Type 0
HasNoTies r = r.fields ≡ map new_field (fields_of r)

-- these are the ties of a record's fields, in their order
abbrev pub HasTies : KeptRecord → List Tie → Type 0
HasTies r ties = ties ≡ map (λ h. h.tie) r.fields

-- rows as they are lent
abbrev pub shown_rows : List (Bor Key × Bor StoredRecord) → List Row
shown_rows rows = map shown_row rows
