-- A kept record as the rules see it.
use Rattle.std.specs.Prelude.{ℕ, zero, suc, List, [], ◌∷◌, map, Option, None, Some, unwrap_or}
use Rattle.std.specs.Option.{option_copied}
use Rattle.std.specs.Borrow.{Bor}
use Rattle.marc_types.specs.declared.field.Field.{Field}
use Rattle.marc_types.specs.declared.field.Leader.{Leader}
use Rattle.marc_types.specs.declared.entry.Tie.{Tie}
use Rattle.marc_types.specs.declared.key.Key.{Key}
use Rattle.catalogue_rules.specs.State.{KeptField, KeptRecord, Row, kept_field, new_field, new_tie, tied}
use Rattle.numbered_store.specs.declared.kept.FoundField.{FoundField}
use Rattle.numbered_store.specs.declared.kept.StoredRecord.{StoredRecord}

-- fields with their ties; where no ties are kept, all are blank
abbrev pub with_ties : List Field → Option (List Tie) → List KeptField
with_ties fields None = map new_field fields
with_ties fields (Some ties) = tied fields ties

-- a record of fields with their ties
abbrev pub tied_record : Leader → List Field → List Tie → KeptRecord
tied_record leader fields ties = record { leader = leader; fields = tied fields ties }

-- so many blank ties
abbrev pub blanks : ℕ → List Tie
blanks zero = []
blanks (suc n) = new_tie ∷ blanks n

-- the record that a kept one is to the rules
unfoldable pub kept_record : StoredRecord → KeptRecord
kept_record kept = record { leader = kept.written.leader; fields = with_ties kept.written.fields kept.ties }

-- a field with the tie that is lent with it; where none is, it is blank
abbrev pub found_field : FoundField → KeptField
found_field found = kept_field found.field (unwrap_or (option_copied found.own) found.blank)

-- a row as it is lent
abbrev pub shown_row : Bor Key × Bor StoredRecord → Row
shown_row row = (row.0.now, kept_record row.1.now)
