use Rattle.worklist_page.proofs.Adding.{then}
use Rattle.worklist_page.proofs.sections.add_brought_cells.Goals as goal

pub returns : goal.returns
returns c = then _ _ _ _ _ (then _ _ _ _ _ (then _ _ _ _ _ c.in_ok-add_run.ensures c.in_ok-add_count.ensures) c.in_ok-add_library.ensures) c.in_ok-add_count-2.ensures
