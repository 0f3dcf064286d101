use Rattle.std.proofs.Common.{append_assoc}
use Rattle.console_lines.specs.Lines.{totals_line}
use Rattle.console_lines.proofs.results.totals_line.Goals as goal

pub returns : goal.returns
unfolding totals_line
returns c = rw (← c.in_ok-sums.ensures) (simp append_assoc c.in_ok-format.ensures.ok)
