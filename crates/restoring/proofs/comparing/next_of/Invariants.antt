use Rattle.std.proofs.Common.{◌≡◌, length}
use Rattle.kept_rows.specs.Rows.{rows_in}
use Rattle.restoring.proofs.comparing.next_of.Given as goal

abbrev pub invariant-loop-row : goal.invariant-loop-row
invariant-loop-row l = rows_in l.class l.rest ≡ rows_in l.fn.class l.fn.rows

abbrev pub decreases-loop-row : goal.decreases-loop-row
decreases-loop-row l = length l.rest
