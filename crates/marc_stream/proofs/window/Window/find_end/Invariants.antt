use Rattle.std.proofs.Common.{◌≤◌, [], length, take}
use Rattle.marc_stream.specs.Window.{Moves, BeginsWith, EndsNone}
use Rattle.marc_stream.proofs.window.Window.find_end.Given as goal

abbrev pub invariant-reads : goal.invariant-reads
invariant-reads g l = record {
  moves : Moves l.fn.self l.self [];
  begins : BeginsWith l.self.buffered l.fn.self.buffered;
  within : l.searched ≤ length l.self.buffered;
  none : EndsNone (take l.searched l.self.buffered);
}

abbrev pub decreases-reads : goal.decreases-reads
decreases-reads g l = l.self.bound
