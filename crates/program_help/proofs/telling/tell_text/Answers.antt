use Rattle.program_help.proofs.Told.{text_told}
use Rattle.program_help.proofs.telling.tell_text.Goals as goal

pub returns : goal.returns
returns g c = text_told _ _ _ _ _ _ c.tell_result.ensures
