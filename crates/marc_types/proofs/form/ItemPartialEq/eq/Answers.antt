use Rattle.marc_types.specs.Order.{item_ties_then, item_ties_else}
use Rattle.marc_types.proofs.form.ItemPartialEq.eq.Goals as goal

pub returns-then-self-other : goal.returns-then-self-other
returns-then-self-other c = item_ties_then _ _ _ c.if-self-other.true c.eq.ensures

pub returns-else-self-other : goal.returns-else-self-other
returns-else-self-other c = item_ties_else _ _ c.if-self-other.false
