use Rattle.worklist_page.proofs.Adding.{then}
use Rattle.worklist_page.proofs.page.add_halves.Goals as goal

pub returns : goal.returns
returns c = then _ _ _ _ _ c.in_ok-add_head.ensures c.in_ok-add_body.ensures
