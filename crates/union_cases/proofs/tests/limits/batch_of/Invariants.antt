use Rattle.std.proofs.Common.{◌-◌, length}
use Rattle.std.specs.List.{All}
use Rattle.union_cases.proofs.Alike.{IsNewOf}
use Rattle.union_cases.proofs.tests.limits.batch_of.Given as goal

abbrev pub invariant-copies : goal.invariant-copies
invariant-copies l = All (IsNewOf l.fn.library) l.batch

abbrev pub decreases-copies : goal.decreases-copies
decreases-copies l = 32 - length l.batch
