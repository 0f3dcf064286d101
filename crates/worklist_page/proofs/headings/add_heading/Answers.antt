use Rattle.std.proofs.Common.{◌∙◌, sym}
use Rattle.worklist_page.proofs.Rows.{row_shown}
use Rattle.worklist_page.proofs.headings.add_heading.Goals as goal

pub returns-in_ok-add_cells_row-in-Some : goal.returns-in_ok-add_cells_row-in-Some
returns-in_ok-add_cells_row-in-Some c =
    row_shown _ c.in-Some.cells _ _ (sym c.in-Some.is ∙ c.in_ok-cells.ensures) c.in_ok-add_cells_row-in-Some.ensures
