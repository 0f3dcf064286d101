use Rattle.std.proofs.Common.{◌≡◌, ◌-◌, drop}
use Rattle.kept_rows.specs.Rows.{are_in_order}
use Rattle.kept_rows.proofs.order.are_in_order.Given as goal

-- what is left decides
abbrev pub invariant-loop-place : goal.invariant-loop-place
invariant-loop-place l = are_in_order (drop (l.place - 1) l.rows) ≡ are_in_order l.rows
