use Rattle.std.proofs.Common.{vec_len}
use Rattle.linked_store.proofs.Noted.{IsKeeping}
use Rattle.linked_store.proofs.back.keep_all.Given as goal

abbrev pub invariant-loop-change : goal.invariant-loop-change
invariant-loop-change l = IsKeeping l.fn.transaction l.transaction

abbrev pub decreases-loop-change : goal.decreases-loop-change
decreases-loop-change l = vec_len l.transaction.log
