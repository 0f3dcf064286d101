use Rattle.worklist_page.proofs.Adding.{then}
use Rattle.worklist_page.proofs.page.add_head_parts.Goals as goal

pub returns : goal.returns
returns c = then _ _ _ _ _ (then _ _ _ _ _ c.in_ok-start_with.ensures c.in_ok-add_named.ensures) c.in_ok-add_style.ensures
