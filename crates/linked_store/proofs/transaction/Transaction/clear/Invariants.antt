use Rattle.linked_store.proofs.Seated.{IsClearing}
use Rattle.linked_store.proofs.transaction.Transaction.clear.Given as goal

abbrev pub invariant-loop-field : goal.invariant-loop-field
invariant-loop-field l = IsClearing l.class l.number l.field l.fn.self l.self
