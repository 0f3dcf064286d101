-- What an export has written row by row.
use Rattle.std.proofs.Common.{◌≡◌, ◌∙◌, Bool, true, false, List, ◌∷◌, ◌++◌, refl, ap}
use Rattle.marc_types.specs.declared.key.Key.{Key}
use Rattle.catalogue_rules.specs.State.{Row}
use Rattle.catalogue_rules.specs.Output.{export_of_rows, written_row}
use Rattle.numbered_store.specs.Kept.{kept_record}
use Rattle.numbered_store.specs.declared.kept.StoredRecord.{StoredRecord}

-- a selected row is written, and the rows behind it follow
export_kept : (keep : Key → Bool) (row : Row) (rows : List Row) → keep row.0 ≡ true → export_of_rows keep (row ∷ rows) ≡ written_row row ++ export_of_rows keep rows
export_kept keep row rows is = rw is refl

-- a row that isn't selected is passed over
export_passed : (keep : Key → Bool) (row : Row) (rows : List Row) → keep row.0 ≡ false → export_of_rows keep (row ∷ rows) ≡ export_of_rows keep rows
export_passed keep row rows skipped = rw skipped refl

-- the next row of a loop over rows, as it is lent
module _ (key : Key) (kept : StoredRecord) (left rows : List Row) (next : left ≡ (key, kept_record kept) ∷ rows) where
  pub next_written : (keep : Key → Bool) → keep key ≡ true → export_of_rows keep left ≡ written_row (key, kept_record kept) ++ export_of_rows keep rows
  next_written keep is = ap (export_of_rows keep) next ∙ export_kept keep (key, kept_record kept) rows is

  pub next_passed : (keep : Key → Bool) → keep key ≡ false → export_of_rows keep left ≡ export_of_rows keep rows
  next_passed keep skipped = ap (export_of_rows keep) next ∙ export_passed keep (key, kept_record kept) rows skipped
