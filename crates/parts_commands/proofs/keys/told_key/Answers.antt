use Rattle.std.proofs.Common.{rules, subst}
use Rattle.entry_record.specs.Answers.{IsRefusalOf}
use Rattle.reading.specs.Answers.{IsRefusedPiece}
use Rattle.parts_commands.proofs.OneKey.{improper, unread}
use Rattle.parts_commands.proofs.keys.told_key.Goals as goal

pub returns-in-Err-Refused-clause-none : goal.returns-in-Err-Refused-clause-none
returns-in-Err-Refused-clause-none c = λ same key tells.
    unread c.args.piece.now c.in-Err-Refused.field-0-0 key
    (subst (IsRefusedPiece c.args.piece.now) c.in-Err-Refused.field-0-is c.in-Err-Refused.ensures.refused) tells

pub returns-in-Err-Refused-key_of-clause-none : goal.returns-in-Err-Refused-key_of-clause-none
returns-in-Err-Refused-key_of-clause-none c = λ same key tells.
    improper c.args.piece.now _ _ _ _ _ key c.in-Ok.ensures.read
    (subst (IsRefusalOf _) c.in-Err-Refused-key_of.field-0-is c.in-Err-Refused-key_of.ensures.refused) (search rules) (search rules) tells
