use Rattle.std.proofs.Common.{◌≡◌, ◌++◌}
use Rattle.holdings.proofs.groups.lent.Given as goal

abbrev pub invariant-loop-key : goal.invariant-loop-key
invariant-loop-key l = l.rows.items ++ l.key-iterator ≡ l.shelf
