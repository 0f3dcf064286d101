use Rattle.std.proofs.Common.{◌≡◌, ◌∙◌, ap, subst, Option}
use Rattle.std.specs.Prelude.{IfOk}
use Rattle.std.specs.Option.{option_copied, option_map}
use Rattle.marc_types.specs.declared.form.Form.{Form}
use Rattle.marc_types.specs.declared.key.Key.{Key}
use Rattle.heading_rows.specs.Rows.{browse_row}
use Rattle.heading_rows.specs.declared.row.BrowseRow.{BrowseRow}
use Rattle.heading_rows.proofs.Brought.{row_told}
use Rattle.heading_rows.proofs.heading.prepared_row.Goals as goal

pub returns : goal.returns
returns c =
    subst (λ (r : Option BrowseRow). IfOk c.row_of_form.result (λ row. row ≡ r))
    (ap (λ (key : Key). option_map (λ (form : Form). browse_row form key) (option_copied c.established.result)) (ap (λ e. e.key) c.entry.ensures.value)
    ∙ row_told _ _ _ _ c.requires c.established.ensures)
    c.row_of_form.ensures
