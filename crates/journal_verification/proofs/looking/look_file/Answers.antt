use Rattle.std.proofs.Common.{◌∙◌}
use Rattle.std.proofs.lemmas.Result.{IfOk-weaker}
use Rattle.journal_verification.proofs.There.{there_and}
use Rattle.journal_verification.proofs.looking.look_file.Goals as goal

pub returns-clause-verified : goal.returns-clause-verified
returns-clause-verified g c =
    IfOk-weaker c.look_source-looked.result.0 _ _
    (λ l is tells. there_and _ (c.in-Ok.ensures.there tells) (λ log at. is log (c.in-Ok.ensures.bytes tells ∙ at)))
    c.look_source-looked.ensures.verified

pub returns-clause-front : goal.returns-clause-front
returns-clause-front g c =
    IfOk-weaker c.look_source-looked.result.0 _ _
    (λ l is tells. there_and _ (c.in-Ok.ensures.there tells) (λ log at. is log (c.in-Ok.ensures.bytes tells ∙ at)))
    c.look_source-looked.ensures.front

pub returns-clause-none : goal.returns-clause-none
returns-clause-none g c place is tells =
    there_and _ (c.in-Ok.ensures.there tells) (λ log at. c.look_source-looked.ensures.lost place is log (c.in-Ok.ensures.bytes tells ∙ at))
