use Rattle.std.proofs.Common.{◌≡◌, ◌≤◌, true, false}
use Rattle.parts_commands.proofs.Copied.{AreCopiedSoFar}
use Rattle.parts_commands.proofs.appending.copy_records.Given as goal

abbrev pub invariant-records : goal.invariant-records
invariant-records g l = record {
  going : l.export.over ≡ false;
  tells : l.export.tells ≡ l.fn.export.tells;
  later : l.fn.export.faults ≤ l.export.faults;
  out_later : g.K.Sink.faults l.fn.out ≤ g.K.Sink.faults l.out;
  copied : l.fn.export.tells ≡ true
      → AreCopiedSoFar l.fn.export.coming l.export.coming l.fn.last.items l.last.items (g.K.Sink.written l.fn.out) (g.K.Sink.written l.out);
}

abbrev pub decreases-records : goal.decreases-records
decreases-records g l = l.export.most
