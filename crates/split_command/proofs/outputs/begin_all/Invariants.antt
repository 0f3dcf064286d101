use Rattle.std.proofs.Common.{◌≡◌, length, vec_capacity}
use Rattle.split_command.proofs.SideBySide.{AreBeginning}
use Rattle.split_command.proofs.outputs.begin_all.Given as goal

abbrev pub invariant-loop-index : goal.invariant-loop-index
invariant-loop-index g l = AreBeginning g.R.Out.Sink.written g.R.Out.Sink.faults l.fn.names l.outs.items (g.R.Room.seen l.initial.room) (g.R.Room.seen l.room)
    × (length l.outs.items ≡ l.index) × (vec_capacity l.outs ≡ vec_capacity l.initial.outs)
