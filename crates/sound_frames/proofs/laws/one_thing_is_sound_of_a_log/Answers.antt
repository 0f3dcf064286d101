use Rattle.sound_frames.proofs.Once.{sound_once}
use Rattle.sound_frames.proofs.laws.one_thing_is_sound_of_a_log.Goals as goal

pub returns : goal.returns
returns c = sound_once
