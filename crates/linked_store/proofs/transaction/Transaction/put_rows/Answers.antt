use Rattle.linked_store.proofs.Noted.{goes_then}
use Rattle.linked_store.proofs.transaction.Transaction.put_rows.Goals as goal

pub returns-clause-goes : goal.returns-clause-goes
returns-clause-goes c = goes_then c.args.self.now c.put_link.new.self c.put_row.new.self c.put_link.ensures.goes c.put_row.ensures.goes
