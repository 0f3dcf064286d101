use Rattle.marc_types.specs.Order.{key_ties_then, key_ties_else}
use Rattle.marc_types.proofs.key.KeyPartialEq.eq.Goals as goal

pub returns-then-eq : goal.returns-then-eq
returns-then-eq c = key_ties_then _ _ _ c.if-eq.ensures c.eq-then-eq.ensures

pub returns-else-eq : goal.returns-else-eq
returns-else-eq c = rw c.if-eq.false (key_ties_else _ _ c.if-eq.ensures)
