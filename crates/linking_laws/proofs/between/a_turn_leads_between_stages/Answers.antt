use Rattle.linking_laws.proofs.Turning.{turn_ready}
use Rattle.linking_laws.proofs.between.a_turn_leads_between_stages.Goals as goal

pub returns : goal.returns
returns c = λ all change now m either done p h next. turn_ready all change done now p h m next either
