use Rattle.linking_laws.proofs.Agreeing.{agree_placed}
use Rattle.linking_laws.proofs.tables.tables_follow_a_record.Goals as goal

pub returns : goal.returns
returns c = agree_placed
