use Rattle.std.proofs.Common.{append_assoc}
use Rattle.holdings_command.specs.Lines.{holdings_line}
use Rattle.holdings_command.proofs.lines.counts_text.Goals as goal

pub returns : goal.returns
unfolding holdings_line
returns c = simp append_assoc c.in_ok-format.ensures.ok
