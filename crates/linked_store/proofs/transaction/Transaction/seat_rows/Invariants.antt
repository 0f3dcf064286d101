use Rattle.std.proofs.Common.{vec_len}
use Rattle.linked_store.proofs.Seated.{IsSeating}
use Rattle.linked_store.proofs.transaction.Transaction.seat_rows.Given as goal

abbrev pub invariant-loop-one : goal.invariant-loop-one
invariant-loop-one l = IsSeating l.class l.number l.fn.rows.items l.rows.items l.fn.self l.self

abbrev pub decreases-loop-one : goal.decreases-loop-one
decreases-loop-one l = vec_len l.rows
