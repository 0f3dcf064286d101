use Rattle.std.proofs.Common.{append_assoc}
use Rattle.console_lines.specs.Lines.{refused_line}
use Rattle.console_lines.proofs.lines.refused_line.Goals as goal

pub returns : goal.returns
unfolding refused_line
returns c =
    rw (← c.number-number.ensures, ← c.in_ok-reason.ensures)
    (simp append_assoc c.in_ok-format.ensures.ok)
