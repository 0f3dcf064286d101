use Rattle.std.proofs.Common.{◌≡◌, ◌++◌}
use Rattle.worklist_page.proofs.libraries.in_order.Given as goal

abbrev pub invariant-loop-rank : goal.invariant-loop-rank
invariant-loop-rank l = l.rows.items ++ l.rank-iterator ≡ l.fn.ranks.keys
