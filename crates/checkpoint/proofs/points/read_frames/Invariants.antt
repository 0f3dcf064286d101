use Rattle.std.proofs.Common.{length}
use Rattle.checkpoint.proofs.Framing.{AreFramesRead}
use Rattle.checkpoint.proofs.points.read_frames.Given as goal

abbrev pub invariant-loop-frame : goal.invariant-loop-frame
invariant-loop-frame l =
    goal.iterator-loop-frame.can_next l.frame-iterator ×
    goal.iterator-loop-frame.is_finite l.frame-iterator ×
    AreFramesRead l.fn.frames.items (length l.yielded) l.so_far
