use Rattle.worklist_page.proofs.Adding.{then}
use Rattle.worklist_page.proofs.tables.start_table.Goals as goal

pub returns : goal.returns
returns c = then _ _ _ _ _ (then _ _ _ _ _ (then _ _ _ _ _ c.in_ok-start.ensures c.in_ok-add_element.ensures) c.in_ok-start-2.ensures) c.in_ok-start-3.ensures
