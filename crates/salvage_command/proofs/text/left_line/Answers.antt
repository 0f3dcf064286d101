use Rattle.std.proofs.Common.{append_assoc}
use Rattle.salvage_command.proofs.Texts.{left_some}
use Rattle.salvage_command.proofs.text.left_line.Goals as goal

pub returns : goal.returns
returns c = left_some c.args.left c.args.end _ c.if-left-eq0.false (simp append_assoc c.in_ok-format.ensures.ok)
