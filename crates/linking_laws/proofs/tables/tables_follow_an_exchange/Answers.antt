use Rattle.linking_laws.proofs.Agreeing.{agree_swapped}
use Rattle.linking_laws.proofs.tables.tables_follow_an_exchange.Goals as goal

pub returns : goal.returns
returns c = agree_swapped
