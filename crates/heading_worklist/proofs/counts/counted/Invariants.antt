use Rattle.std.proofs.Common.{take}
use Rattle.heading_worklist.specs.Counting.{AreTimes}
use Rattle.heading_worklist.proofs.counts.counted.Given as goal

abbrev pub invariant-loop-heading : goal.invariant-loop-heading
invariant-loop-heading l = AreTimes l.whole (take l.heading-index l.all) l.counts
