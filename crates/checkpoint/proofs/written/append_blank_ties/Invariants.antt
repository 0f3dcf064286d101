use Rattle.checkpoint.proofs.Kept.{AreWritten}
use Rattle.checkpoint.proofs.written.append_blank_ties.Given as goal

abbrev pub invariant-loop-done : goal.invariant-loop-done
invariant-loop-done l = AreWritten l.count l.done l.fn.out.items l.out.items
