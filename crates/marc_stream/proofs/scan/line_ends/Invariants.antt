use Rattle.std.proofs.Common.{take}
use Rattle.marc_stream.specs.Window.{AreLineEnds}
use Rattle.marc_stream.proofs.scan.line_ends.Given as goal

abbrev pub invariant-loop-i : goal.invariant-loop-i
invariant-loop-i l = AreLineEnds (take l.i l.bytes)
