use Rattle.std.proofs.Common.{◌∙◌}
use Rattle.std.proofs.lemmas.Result.{IfOk-at_ok}
use Rattle.journal_verification.proofs.There.{there_and}
use Rattle.salvage_command.proofs.looking.sound_of.Goals as goal

pub returns-in-Ok-sound-clause-sound : goal.returns-in-Ok-sound-clause-sound
returns-in-Ok-sound-clause-sound g c tells =
    let sound = IfOk-at_ok _ c.in-Ok-sound.is c.find_sound-sound.ensures.sound in
    let bytes = IfOk-at_ok _ c.in-Ok-sound.is c.find_sound-sound.ensures.bytes in
    there_and _ (c.in-Ok.ensures.there tells)
    (λ log at. record { sound = sound log (c.in-Ok.ensures.bytes tells ∙ at); counted = bytes log (c.in-Ok.ensures.bytes tells ∙ at) })

pub returns-in-Ok-sound-clause-fits : goal.returns-in-Ok-sound-clause-fits
returns-in-Ok-sound-clause-fits g c = IfOk-at_ok _ c.in-Ok-sound.is c.find_sound-sound.ensures.fits
