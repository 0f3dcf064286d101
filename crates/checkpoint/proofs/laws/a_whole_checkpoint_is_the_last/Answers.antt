use Rattle.checkpoint.proofs.Wholes.{whole_read}
use Rattle.checkpoint.proofs.laws.a_whole_checkpoint_is_the_last.Goals as goal

pub returns : goal.returns
returns c = whole_read
