use Rattle.std.proofs.lemmas.Result.{IfOk-weaker, IfErr-weaker}
use Rattle.journal_verification.proofs.There.{there_more}
use Rattle.salvage_command.proofs.looking.findings_of.Goals as goal

pub returns-in-Ok-clause-found : goal.returns-in-Ok-clause-found
returns-in-Ok-clause-found g c =
    IfOk-weaker c.look_over.result _ _
    (λ found is tells. there_more _ (λ log read. is c.args.limits log read c.in-Ok.ensures.fits) (c.in-Ok.ensures.sound tells)) c.look_over.ensures.found

pub returns-in-Ok-clause-within : goal.returns-in-Ok-clause-within
returns-in-Ok-clause-within g c =
    IfOk-weaker c.look_over.result _ _ (λ found is. is c.args.limits c.in-Ok.ensures.fits) c.look_over.ensures.within

pub returns-in-Ok-clause-unfound : goal.returns-in-Ok-clause-unfound
returns-in-Ok-clause-unfound g c =
    IfErr-weaker c.look_over.result _ _
    (λ fault is input memory tells. there_more _ (λ log read. is c.args.limits log read c.in-Ok.ensures.fits) (c.in-Ok.ensures.sound tells)) c.look_over.ensures.unfound
