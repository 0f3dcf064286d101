use Rattle.checkpoint.proofs.Tying.{AreTiesSoFar}
use Rattle.checkpoint.proofs.ties.read_ties.Given as goal

abbrev pub invariant-loop-done : goal.invariant-loop-done
invariant-loop-done l = AreTiesSoFar l.fn.count l.fn.bytes l._done l.ties.items l.rest
