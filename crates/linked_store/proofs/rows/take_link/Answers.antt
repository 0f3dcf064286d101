use Rattle.linked_store.specs.Transactions.{links_in}
use Rattle.linked_store.proofs.Outside.{took_link}
use Rattle.linked_store.proofs.rows.take_link.Goals as goal

pub returns-in_default-clause-now : goal.returns-in_default-clause-now
returns-in_default-clause-now c =
    took_link c.args.seat (links_in c.args.tables.now) (links_in c.take_link.new.self) c.take_link.result c.take_link.ensures.row c.take_link.ensures.some c.take_link.ensures.none
