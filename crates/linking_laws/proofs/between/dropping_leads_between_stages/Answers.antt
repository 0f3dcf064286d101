use Rattle.linking_laws.proofs.Dropped.{drop_ready}
use Rattle.linking_laws.proofs.between.dropping_leads_between_stages.Goals as goal

pub returns : goal.returns
returns c = drop_ready
