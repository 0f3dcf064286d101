use Rattle.marc_stream.proofs.Windows.{Skipping}
use Rattle.marc_stream.proofs.window.Window.skip_item.Given as goal

abbrev pub invariant-reads : goal.invariant-reads
invariant-reads g l = Skipping l.fn.self l.self

abbrev pub decreases-reads : goal.decreases-reads
decreases-reads g l = l.self.bound
