-- Rows that are given one after the other, of which the first are kept.
use Rattle.std.specs.Prelude.{◌≡◌, ℕ, List, ◌++◌}
use Rattle.marc_types.specs.declared.form.Form.{Form}
use Rattle.heading_list.specs.Rows.{first_of}
use Rattle.heading_list.specs.declared.first_rows.FirstRows.{FirstRows}
use Rattle.heading_list.specs.declared.row.ListRow.{ListRow}

-- it has the first of the rows that it was given, from a form on, so many of them
pub record HasFirst (from : Form) (most : ℕ) (given : List ListRow) (first : FirstRows) : Type 0 where
  pub from_is : first.from ≡ from
  pub most_is : first.most ≡ most
  pub rows_are : first.rows.keys ≡ first_of from most given

-- it was given these rows too
abbrev pub Takes : FirstRows → FirstRows → List ListRow → Type 0
Takes old new rows =
    (from : Form) (most : ℕ) (given : List ListRow) → HasFirst from most given old → HasFirst from most (given ++ rows) new
