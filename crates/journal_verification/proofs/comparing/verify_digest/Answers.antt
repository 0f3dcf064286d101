use Rattle.std.proofs.Common.{◌∙◌}
use Rattle.journal_verification.proofs.ToldDigest.{of_others, verifies_other, verifies_digest}
use Rattle.journal_verification.proofs.comparing.verify_digest.Goals as goal

pub returns-in_default-clause-ends : goal.returns-in_default-clause-ends
returns-in_default-clause-ends g c =
    verifies_other _ _ _ _ c.tell-in_default.ensures.end c.tell-in_default.ensures.told
    (λ tells.
    of_others c.args.count c.args.digits.now c.in-Ok.looked.verified c.in-Ok.looked.front _ (c.agreed.ensures.none c.in_default.is)
    (c.in-Ok.ensures.verified tells) (c.in-Ok.ensures.front tells))

pub returns-in-Ok-digest_text-clause-ends : goal.returns-in-Ok-digest_text-clause-ends
returns-in-Ok-digest_text-clause-ends g c =
    let some = c.in-Some.ensures.some in
    verifies_digest _ _ _ _ c.in-Ok.looked.verified c.in-Ok.looked.front c.in-Some.digest c.as_str.result.now
    (c.as_str.ensures.value ∙ c.in-Ok-digest_text.ensures) some.0 some.1 c.in-Ok.ensures.verified c.in-Ok.ensures.front c.tell_result.ensures
