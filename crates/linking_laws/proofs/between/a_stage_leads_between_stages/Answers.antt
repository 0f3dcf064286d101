use Rattle.linking_laws.proofs.Settling.{stage_ready}
use Rattle.linking_laws.proofs.between.a_stage_leads_between_stages.Goals as goal

pub returns : goal.returns
returns c = stage_ready
