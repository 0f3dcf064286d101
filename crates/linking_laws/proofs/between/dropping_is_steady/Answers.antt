use Rattle.linking_laws.proofs.Steadily.{drop_steady}
use Rattle.linking_laws.proofs.between.dropping_is_steady.Goals as goal

pub returns : goal.returns
returns c = drop_steady
