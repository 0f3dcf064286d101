use Rattle.restoring.proofs.Taking.{found_in_order}
use Rattle.restoring.proofs.laws.a_found_checkpoint_is_in_order.Goals as goal

pub returns : goal.returns
returns c = found_in_order
