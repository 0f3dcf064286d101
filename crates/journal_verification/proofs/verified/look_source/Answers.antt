use Rattle.std.proofs.Common.{◌∙◌, ap}
use Rattle.std.proofs.lemmas.Result.{IfOk-weaker}
use Rattle.journal_verification.proofs.Verifying.{comes_all}
use Rattle.journal_verification.proofs.verified.look_source.Goals as goal

pub returns-clause-front : goal.returns-clause-front
returns-clause-front g c =
    IfOk-weaker c.look_coming-looked.result _ _
    (λ l is log told. is log (comes_all log _ _ c.new-coming.ensures.window (ap g.S.Source.left c.new-coming.ensures.source ∙ told)))
    c.look_coming-looked.ensures.front

pub returns-clause-lost : goal.returns-clause-lost
returns-clause-lost g c wrong is log told =
    c.look_coming-looked.ensures.lost wrong is log (comes_all log _ _ c.new-coming.ensures.window (ap g.S.Source.left c.new-coming.ensures.source ∙ told))
