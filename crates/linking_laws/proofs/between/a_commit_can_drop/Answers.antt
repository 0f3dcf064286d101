use Rattle.linking_laws.proofs.Dropped.{can_drop}
use Rattle.linking_laws.proofs.between.a_commit_can_drop.Goals as goal

pub returns : goal.returns
returns c = can_drop
