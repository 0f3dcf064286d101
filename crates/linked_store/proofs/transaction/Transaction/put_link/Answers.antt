use Rattle.std.proofs.Common.{refl}
use Rattle.linked_store.specs.Transactions.{contents}
use Rattle.linked_store.proofs.Noted.{goes_none}
use Rattle.linked_store.proofs.Turned.{no_link_comes}
use Rattle.linked_store.proofs.transaction.Transaction.put_link.Goals as goal

pub returns-in-None-clause-now : goal.returns-in-None-clause-now
returns-in-None-clause-now c = no_link_comes c.args.seat c.args.link (contents c.args.self.now) c.in-None.is c.requires

pub returns-in-None-clause-goes : goal.returns-in-None-clause-goes
returns-in-None-clause-goes c = goes_none c.args.self.now c.args.self.now refl refl refl
