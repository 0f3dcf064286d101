use Rattle.marc_stream.proofs.Windows.{SkippingLineEnds}
use Rattle.marc_stream.proofs.window.Window.skip_line_ends.Given as goal

abbrev pub invariant-line_ends : goal.invariant-line_ends
invariant-line_ends g l = SkippingLineEnds l.fn.self l.self

abbrev pub decreases-line_ends : goal.decreases-line_ends
decreases-line_ends g l = l.self.bound
