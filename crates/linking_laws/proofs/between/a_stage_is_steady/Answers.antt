use Rattle.linking_laws.proofs.Steadily.{stage_steady}
use Rattle.linking_laws.proofs.between.a_stage_is_steady.Goals as goal

pub returns : goal.returns
returns c = stage_steady
