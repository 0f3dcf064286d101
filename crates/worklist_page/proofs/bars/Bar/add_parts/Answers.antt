use Rattle.worklist_page.proofs.Adding.{then}
use Rattle.worklist_page.proofs.bars.Bar.add_parts.Goals as goal

pub returns : goal.returns
returns c = then _ _ _ _ _ (then _ _ _ _ _ c.in_ok-add_part.ensures c.in_ok-add_part-2.ensures) c.in_ok-add_part-3.ensures
