use Rattle.std.proofs.Common.{◌≡◌, ◌++◌, take}
use Rattle.checkpoint.specs.Reading.{ties_bytes}
use Rattle.checkpoint.proofs.written.append_ties.Given as goal

abbrev pub invariant-loop-tie : goal.invariant-loop-tie
invariant-loop-tie l = l.out.items ≡ l.fn.out.items ++ ties_bytes (take l.tie-index l.ties)
