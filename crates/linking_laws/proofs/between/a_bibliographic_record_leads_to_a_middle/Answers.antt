use Rattle.linking_laws.proofs.Owning.{bibliographic_middle}
use Rattle.linking_laws.proofs.between.a_bibliographic_record_leads_to_a_middle.Goals as goal

pub returns : goal.returns
returns c = bibliographic_middle
