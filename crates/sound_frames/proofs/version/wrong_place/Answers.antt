use Rattle.sound_frames.proofs.Headers.{none_wrong, first_wrong}
use Rattle.sound_frames.proofs.version.wrong_place.Goals as goal

pub returns-in-Ok : goal.returns-in-Ok
returns-in-Ok c = none_wrong c.args.log.now c.filled_header.result c.filled_header.ensures c.in-Ok.ensures.right

pub returns-in-Err : goal.returns-in-Err
returns-in-Err c = first_wrong c.args.log.now c.filled_header.result c.in-Err.place c.filled_header.ensures c.in-Err.ensures.wrong
