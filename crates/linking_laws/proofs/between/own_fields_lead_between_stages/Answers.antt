use Rattle.linking_laws.proofs.Settling.{own_ready}
use Rattle.linking_laws.proofs.between.own_fields_lead_between_stages.Goals as goal

pub returns : goal.returns
returns c = own_ready
