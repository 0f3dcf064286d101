use Rattle.std.proofs.Common.{append_assoc}
use Rattle.console_lines.specs.Lines.{sums_text}
use Rattle.console_lines.proofs.results.sums_text.Goals as goal

pub returns : goal.returns
unfolding sums_text
returns c = simp append_assoc c.in_ok-format.ensures.ok
