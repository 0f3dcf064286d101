use Rattle.std.proofs.Common.{◌≡◌, ◌≤◌, true, [], take}
use Rattle.outside.specs.Room.{SameBut}
use Rattle.parts_commands.proofs.Joins.{AreJoinedSoFar}
use Rattle.parts_commands.proofs.joining.write_parts.Given as goal

abbrev pub invariant-loop-name : goal.invariant-loop-name
invariant-loop-name g l = record {
  stays : SameBut (g.R.Room.seen l.fn.room) (g.R.Room.seen l.room) [];
  later : g.R.Out.Sink.faults l.fn.out ≤ g.R.Out.Sink.faults l.out;
  joined : (g.R.Room.seen l.fn.room).tells ≡ true
      → AreJoinedSoFar (g.R.Room.seen l.fn.room).file l.first (take l.name-index l.exports) l.buffers.last.items
      (g.R.Out.Sink.written l.fn.out) (g.R.Out.Sink.written l.out);
}
