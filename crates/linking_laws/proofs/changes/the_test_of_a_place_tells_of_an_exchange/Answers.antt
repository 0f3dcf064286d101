use Rattle.linking_laws.proofs.Exchanged.{exchange_told, exchange_tells}
use Rattle.linking_laws.proofs.changes.the_test_of_a_place_tells_of_an_exchange.Goals as goal

pub returns-clause-told : goal.returns-clause-told
returns-clause-told c = exchange_told

pub returns-clause-tells : goal.returns-clause-tells
returns-clause-tells c = exchange_tells
