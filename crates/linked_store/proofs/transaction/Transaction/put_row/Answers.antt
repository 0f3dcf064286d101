use Rattle.std.proofs.Common.{refl}
use Rattle.linked_store.proofs.Noted.{goes_none}
use Rattle.linked_store.proofs.Turned.{no_row_comes}
use Rattle.linked_store.proofs.transaction.Transaction.put_row.Goals as goal

pub returns-in_default-clause-now : goal.returns-in_default-clause-now
returns-in_default-clause-now c = no_row_comes c.args.seat c.args.row c.args.self.now c.in_default.not-Some c.requires

pub returns-in_default-clause-goes : goal.returns-in_default-clause-goes
returns-in_default-clause-goes c = goes_none c.args.self.now c.args.self.now refl refl refl
