-- Rows of one class, in the order of their keys.
use Rattle.std.specs.Prelude.{◌≡◌, true, List, All, map}
use Rattle.marc_types.specs.declared.key.Class.{Class}
use Rattle.catalogue_rules.specs.Valid.{IsAscending}
use Rattle.kept_rows.specs.Rows.{is_of, row_of}
use Rattle.kept_rows.specs.declared.row.KeptRow.{KeptRow}

-- the rows are of the class, and their keys ascend
pub record AscendIn (class : Class) (rows : List KeptRow) : Type 0 where
  pub of_class : All (λ r. is_of class r ≡ true) rows
  pub ascend : IsAscending (map row_of rows)
