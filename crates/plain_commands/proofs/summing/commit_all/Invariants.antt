use Rattle.std.proofs.Common.{◌≡◌, ◌++◌, length}
use Rattle.plain_commands.proofs.summing.commit_all.Given as goal

abbrev pub invariant-entries : goal.invariant-entries
invariant-entries g l = (l.loaded.limits ≡ l.fn.loaded.limits) × (l.loaded.accepted ++ l.entries ≡ l.fn.loaded.accepted ++ l.fn.entries)

abbrev pub decreases-entries : goal.decreases-entries
decreases-entries g l = length l.entries
