use Rattle.std.proofs.Common.{◌≤◌, length, take}
use Rattle.std.specs.Io.KnownBytes.{Appends}
use Rattle.outside_real.proofs.writing.write_whole.Given as goal

abbrev pub invariant-writes : goal.invariant-writes
invariant-writes g l = record {
  within : l.sent ≤ length l.bytes;
  wrote : Appends (g.W.Write.contents l.fn.to) (g.W.Write.contents l.to) (take l.sent l.bytes);
}
