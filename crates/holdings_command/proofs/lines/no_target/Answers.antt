use Rattle.std.proofs.Common.{append_assoc}
use Rattle.holdings_command.specs.Lines.{refused_holding_line}
use Rattle.holdings_command.proofs.lines.no_target.Goals as goal

pub returns : goal.returns
unfolding refused_holding_line
returns c =
    rw (← c.number-number.ensures, c.requires)
    (simp append_assoc c.in_ok-format.ensures.ok)
