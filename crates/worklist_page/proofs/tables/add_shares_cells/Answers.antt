use Rattle.worklist_page.proofs.Adding.{then}
use Rattle.worklist_page.proofs.tables.add_shares_cells.Goals as goal

pub returns : goal.returns
returns c = then _ _ _ _ _ (then _ _ _ _ _ c.in_ok-add_row_name.ensures c.in_ok-add_numbers.ensures) c.in_ok-add_bar_cell.ensures
