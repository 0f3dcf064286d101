use Rattle.restoring.proofs.Appended.{new_last}
use Rattle.restoring.proofs.laws.a_new_checkpoint_is_the_last.Goals as goal

pub returns : goal.returns
returns c = new_last
