use Rattle.linked_store.specs.Transactions.{waits_in}
use Rattle.linked_store.proofs.Outside.{took_waiting}
use Rattle.linked_store.proofs.rows.take_waiting.Goals as goal

pub returns-in_default-clause-now : goal.returns-in_default-clause-now
returns-in_default-clause-now c =
    took_waiting c.args.seat (waits_in c.args.tables.now) (waits_in c.take_waiting.new.self) c.take_waiting.result c.take_waiting.ensures.row c.take_waiting.ensures.some c.take_waiting.ensures.none
