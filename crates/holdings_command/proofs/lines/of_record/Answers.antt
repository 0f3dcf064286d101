use Rattle.std.proofs.Common.{◌∙◌}
use Rattle.std.proofs.lemmas.Result.{IfOk-weaker}
use Rattle.holdings_command.proofs.Counting.{line_of_record}
use Rattle.holdings_command.proofs.lines.of_record.Goals as goal

pub returns : goal.returns
returns c =
    IfOk-weaker c.refused_lines.result _ _
    (λ text is. is ∙ line_of_record c.args.file.now c.args.item.now c.args.refusal c.requires) c.refused_lines.ensures
