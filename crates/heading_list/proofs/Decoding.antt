-- A kept record is read as what it was written of.
use Rattle.std.proofs.Common.{◌≡◌, ◌∙◌, true, List, ap}
use Rattle.std.specs.Prelude.{All}
use Rattle.marc_types.specs.declared.field.Leader.{Leader}
use Rattle.marc_types.specs.declared.field.Field.{Field}
use Rattle.marc_types.specs.declared.refusal.Refusal.{Refusal}
use Rattle.iso2709_record.specs.Written.{fits, record_bytes}
use Rattle.iso2709_record.specs.Texts.{HasUtf8Texts}
use Rattle.reading.specs.Reading.{IsReadAs, IsRefusedAs}
use Rattle.reading.proofs.Written.{written_reads}
use Rattle.reading.proofs.OneReading.{one_fields, read_or_refused}
use Rattle.catalogue_rules.specs.State.{fields_of}
use Rattle.numbered_store.specs.Kept.{kept_record}
use Rattle.numbered_store.specs.declared.kept.StoredRecord.{StoredRecord}
use Rattle.numbered_store.proofs.Tied.{kept_fields}
use Rattle.numbered_store.proofs.Keeping.{proper_kept}

itself : (kept : StoredRecord) → All HasUtf8Texts (fields_of (kept_record kept))
    → IsReadAs (record_bytes (kept_record kept).leader (fields_of (kept_record kept))) (kept_record kept).leader (fields_of (kept_record kept))
itself kept utf8 =
    let fit : fits (fields_of (kept_record kept)) ≡ true = ap fits (kept_fields kept) ∙ kept.fit in
    written_reads (kept_record kept).leader (fields_of (kept_record kept)) (proper_kept kept) fit utf8

-- what was written of a kept record is read as that record
pub read_again : (kept : StoredRecord) (leader : Leader) (fields : List Field) → All HasUtf8Texts (fields_of (kept_record kept))
    → IsReadAs (record_bytes (kept_record kept).leader (fields_of (kept_record kept))) leader fields → fields ≡ fields_of (kept_record kept)
read_again kept leader fields utf8 reads =
    one_fields _ leader (kept_record kept).leader fields (fields_of (kept_record kept)) reads (itself kept utf8)

-- and so it isn't refused
pub never_refused : (kept : StoredRecord) (refusal : Refusal) → All HasUtf8Texts (fields_of (kept_record kept))
    → IsRefusedAs (record_bytes (kept_record kept).leader (fields_of (kept_record kept))) refusal → ⊥
never_refused kept refusal utf8 refused = read_or_refused _ (kept_record kept).leader (fields_of (kept_record kept)) refusal (itself kept utf8) refused
