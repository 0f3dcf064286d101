use Rattle.checkpoint.proofs.Wholes.{half_counts_nothing}
use Rattle.checkpoint.proofs.laws.half_a_checkpoint_counts_for_nothing.Goals as goal

pub returns : goal.returns
returns c = half_counts_nothing
