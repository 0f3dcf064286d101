use Rattle.linking_laws.proofs.Exchanged.{left_by_stages}
use Rattle.linking_laws.proofs.changes.no_stage_takes_back_a_change.Goals as goal

pub returns : goal.returns
returns c = left_by_stages
