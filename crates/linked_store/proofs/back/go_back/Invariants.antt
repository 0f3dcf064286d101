use Rattle.std.proofs.Common.{vec_len}
use Rattle.linked_store.proofs.Noted.{IsUnderWay}
use Rattle.linked_store.proofs.back.go_back.Given as goal

abbrev pub invariant-loop-change : goal.invariant-loop-change
invariant-loop-change l = IsUnderWay l.position l.fn.transaction l.transaction

abbrev pub decreases-loop-change : goal.decreases-loop-change
decreases-loop-change l = vec_len l.transaction.log
