use Rattle.std.proofs.Common.{◌∙◌}
use Rattle.journal_verification.proofs.Told.{verifies_told}
use Rattle.journal_verification.proofs.command.verify.Goals as goal

pub returns-in-Ok-verified_text-clause-ends : goal.returns-in-Ok-verified_text-clause-ends
returns-in-Ok-verified_text-clause-ends g c =
    verifies_told _ _ c.in-Ok.looked.verified c.as_str.result.now (c.as_str.ensures.value ∙ c.in-Ok-verified_text.ensures) c.in-Ok.ensures.verified
    c.tell_result.ensures
