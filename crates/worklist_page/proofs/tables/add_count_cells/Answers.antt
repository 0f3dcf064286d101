use Rattle.worklist_page.proofs.Adding.{then}
use Rattle.worklist_page.proofs.tables.add_count_cells.Goals as goal

pub returns : goal.returns
returns c = then _ _ _ _ _ c.in_ok-add_row_name.ensures c.in_ok-add_count.ensures
