use Rattle.restoring.proofs.Taking.{taken_up}
use Rattle.restoring.proofs.laws.a_checkpoint_of_a_front_is_taken_up.Goals as goal

pub returns : goal.returns
returns c history point admitted front taken begun = taken_up history point taken begun admitted front.within front.state_is
