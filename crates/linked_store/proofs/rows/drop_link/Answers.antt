use Rattle.linked_store.specs.Transactions.{links_in}
use Rattle.linked_store.proofs.Outside.{link_unmoved}
use Rattle.linked_store.proofs.rows.drop_link.Goals as goal

pub returns-in_default-clause-now : goal.returns-in_default-clause-now
returns-in_default-clause-now c =
    link_unmoved c.args.seat (links_in c.args.tables.now) (links_in c.take_link.new.self) c.take_link.result c.in_default.not-Some c.take_link.ensures.row c.take_link.ensures.none
