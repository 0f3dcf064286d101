use Rattle.linking_laws.proofs.Agreeing.{agree_turned}
use Rattle.linking_laws.proofs.tables.tables_follow_a_turn.Goals as goal

pub returns : goal.returns
returns c = λ change done before now ordered partway steady p h t u. agree_turned change done before now p h t u ordered partway steady
