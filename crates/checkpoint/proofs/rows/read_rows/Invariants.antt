use Rattle.std.proofs.Common.{length}
use Rattle.checkpoint.proofs.Rowing.{AreRowsSoFar}
use Rattle.checkpoint.proofs.rows.read_rows.Given as goal

abbrev pub invariant-loop-rest : goal.invariant-loop-rest
invariant-loop-rest l = AreRowsSoFar l.fn.bytes l.rows.items l.rest

abbrev pub decreases-loop-rest : goal.decreases-loop-rest
decreases-loop-rest l = length l.rest
