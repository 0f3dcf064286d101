use Rattle.checkpoint.proofs.Rowing.{refused_record}
use Rattle.checkpoint.proofs.heads.read_sound.Goals as goal

pub returns-in-Err-Refused-clause-bad : goal.returns-in-Err-Refused-clause-bad
returns-in-Err-Refused-clause-bad c =
    refused_record c.args.written.now c.in-Err-Refused.field-0-0 (rw c.in-Err-Refused.field-0-is at c.in-Err-Refused.ensures.refused)
