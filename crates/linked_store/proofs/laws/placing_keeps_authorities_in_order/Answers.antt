use Rattle.linked_store.proofs.Placed.{authorities_placed}
use Rattle.linked_store.proofs.laws.placing_keeps_authorities_in_order.Goals as goal

pub returns : goal.returns
returns c = authorities_placed
