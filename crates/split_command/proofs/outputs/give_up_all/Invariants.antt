use Rattle.std.proofs.Common.{◌≤◌, length, vec_len}
use Rattle.split_command.proofs.SideBySide.{AreGivenUp}
use Rattle.split_command.proofs.outputs.give_up_all.Given as goal

abbrev pub invariant-loop-out : goal.invariant-loop-out
invariant-loop-out g l = AreGivenUp g.R.Out.Sink.faults l.fn.names l.initial.outs.items l.outs.items (g.R.Room.seen l.initial.room) (g.R.Room.seen l.room)
    × (length l.outs.items ≤ length l.fn.names)

abbrev pub decreases-loop-out : goal.decreases-loop-out
decreases-loop-out g l = vec_len l.outs
