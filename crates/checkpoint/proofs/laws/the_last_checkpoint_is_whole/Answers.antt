use Rattle.checkpoint.proofs.Wholes.{whole_is_found}
use Rattle.checkpoint.proofs.laws.the_last_checkpoint_is_whole.Goals as goal

pub returns-clause-found : goal.returns-clause-found
returns-clause-found c = whole_is_found
