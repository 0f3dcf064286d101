use Rattle.linked_store.specs.Transactions.{waits_in}
use Rattle.linked_store.proofs.Outside.{waiting_unmoved}
use Rattle.linked_store.proofs.rows.drop_waiting.Goals as goal

pub returns-in_default-clause-now : goal.returns-in_default-clause-now
returns-in_default-clause-now c =
    waiting_unmoved c.args.seat (waits_in c.args.tables.now) (waits_in c.take_waiting.new.self) c.take_waiting.result c.in_default.not-Some c.take_waiting.ensures.row c.take_waiting.ensures.none
