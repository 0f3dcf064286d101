use Rattle.std.proofs.Common.{◌≤◌, length, vec_len}
use Rattle.split_command.proofs.SideBySide.{AreEnded}
use Rattle.split_command.proofs.outputs.close_all.Given as goal

abbrev pub invariant-loop-out : goal.invariant-loop-out
invariant-loop-out g l = AreEnded g.R.Out.Sink.written l.fn.names l.initial.outs.items l.outs.items (g.R.Room.seen l.initial.room) (g.R.Room.seen l.room) l.closed
    × (length l.outs.items ≤ length l.fn.names)

abbrev pub decreases-loop-out : goal.decreases-loop-out
decreases-loop-out g l = vec_len l.outs
