use Rattle.std.proofs.Common.{subst}
use Rattle.reading.specs.Answers.{IsNotPrepared}
use Rattle.split_command.proofs.share.share_of_piece.Goals as goal

pub returns-in-Err-Refused : goal.returns-in-Err-Refused
returns-in-Err-Refused c = (
  c.in-Err-Refused.field-0-0,
  subst (IsNotPrepared c.args.code.now c.args.bytes.now) c.in-Err-Refused.field-0-is c.in-Err-Refused.ensures.refused,
)
