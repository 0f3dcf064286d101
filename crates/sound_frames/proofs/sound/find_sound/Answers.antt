use Rattle.std.proofs.Common.{◌∙◌, ap}
use Rattle.std.proofs.lemmas.Result.{IfOk-weaker}
use Rattle.journal_verification.proofs.Verifying.{comes_all}
use Rattle.sound_frames.proofs.sound.find_sound.Goals as goal

pub returns-clause-sound : goal.returns-clause-sound
returns-clause-sound g c =
    IfOk-weaker c.find_coming-sound.result _ _
    (λ s is log told. is log (comes_all log _ _ c.new-coming.ensures.window (ap g.S.Source.left c.new-coming.ensures.source ∙ told)))
    c.find_coming-sound.ensures.sound

pub returns-clause-bytes : goal.returns-clause-bytes
returns-clause-bytes g c =
    IfOk-weaker c.find_coming-sound.result _ _
    (λ s is log told. is log (comes_all log _ _ c.new-coming.ensures.window (ap g.S.Source.left c.new-coming.ensures.source ∙ told)))
    c.find_coming-sound.ensures.bytes
