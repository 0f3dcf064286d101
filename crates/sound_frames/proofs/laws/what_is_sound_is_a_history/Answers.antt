use Rattle.sound_frames.proofs.Framed.{sound_framed}
use Rattle.sound_frames.proofs.laws.what_is_sound_is_a_history.Goals as goal

pub returns : goal.returns
returns c = sound_framed
