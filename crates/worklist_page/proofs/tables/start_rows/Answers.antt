use Rattle.worklist_page.proofs.Adding.{then}
use Rattle.worklist_page.proofs.tables.start_rows.Goals as goal

pub returns : goal.returns
returns c = then _ _ _ _ _ (then _ _ _ _ _ c.in_ok-end.ensures c.in_ok-end-2.ensures) c.in_ok-start.ensures
