use Rattle.std.proofs.Common.{refl}
use Rattle.linked_store.proofs.Noted.{goes_none}
use Rattle.linked_store.proofs.transaction.Transaction.follow_entry.Goals as goal

pub returns-in-Bibliographic-clause-goes : goal.returns-in-Bibliographic-clause-goes
returns-in-Bibliographic-clause-goes c = goes_none c.args.self.now c.args.self.now refl refl refl
