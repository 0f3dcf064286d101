use Rattle.std.proofs.Common.{[]}
use Rattle.sound_frames.proofs.Versions.{begins}
use Rattle.sound_frames.proofs.version.begins_as.Goals as goal

pub returns : goal.returns
returns c = begins c.args.version _ c.args.log.now _ _ _ c.new-counter.ensures.version (c.in_ok-ahead.ensures.seen [] c.new-counter.ensures.none) c.is_sound.ensures
