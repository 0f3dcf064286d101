use Rattle.std.proofs.Common.{◌∙◌, refl, sym, subst}
use Rattle.point_verification.specs.Verifying.{AreOwn, WhyNotOwn}
use Rattle.point_verification.proofs.Endings.{verifies_own, verifies_unwritten, verifies_not}
use Rattle.point_verification.proofs.command.verify_point.Goals as goal

-- the journal is read behind the log of checkpoints
pub returns-in-Ok-write_resumed-clause-ends : goal.returns-in-Ok-write_resumed-clause-ends
returns-in-Ok-write_resumed-clause-ends g c =
    let stays = c.read_file.ensures.stays in
    let history = c.in-Ok-read_file.bytes.items in
    let point = c.in-Ok.bytes.items in
    let own = c.in-Ok-judged in
    verifies_own c.args.journal.now c.args.point.now history point _ own.held own.count
    (λ tells. sym (stays.files c.args.journal.now tt) ∙ c.in-Ok-read_file.ensures.bytes (stays.tells ∙ tells)) c.in-Ok.ensures.bytes
    (subst (λ l. AreOwn l history point own.held own.count) c.limits_of-limits.ensures own.ensures.own) refl c.in-Ok-write_resumed.ensures.line

pub returns-in-Err-write_resumed-clause-ends : goal.returns-in-Err-write_resumed-clause-ends
returns-in-Err-write_resumed-clause-ends g c =
    let stays = c.read_file.ensures.stays in
    let history = c.in-Ok-read_file.bytes.items in
    let point = c.in-Ok.bytes.items in
    let own = c.in-Ok-judged in
    verifies_unwritten c.args.journal.now c.args.point.now history point _ own.held own.count
    (λ tells. sym (stays.files c.args.journal.now tt) ∙ c.in-Ok-read_file.ensures.bytes (stays.tells ∙ tells)) c.in-Ok.ensures.bytes
    (subst (λ l. AreOwn l history point own.held own.count) c.limits_of-limits.ensures own.ensures.own) refl c.write_resumed.ensures.front
    c.in-Err-write_resumed.ensures.cause.failed

pub returns-in-Err-judged-clause-ends : goal.returns-in-Err-judged-clause-ends
returns-in-Err-judged-clause-ends g c =
    let stays = c.read_file.ensures.stays in
    let history = c.in-Ok-read_file.bytes.items in
    let point = c.in-Ok.bytes.items in
    let told = c.tell-in-Err-judged.ensures in
    verifies_not c.args.journal.now c.args.point.now history point _ c.in-Err-judged.fault
    (λ tells. sym (stays.files c.args.journal.now tt) ∙ c.in-Ok-read_file.ensures.bytes (stays.tells ∙ tells)) c.in-Ok.ensures.bytes
    (subst (λ l. WhyNotOwn l history point c.in-Err-judged.fault) c.limits_of-limits.ensures c.in-Err-judged.ensures.not_own) told.end told.told
