use Rattle.std.proofs.Common.{length}
use Rattle.commit_journal.specs.Versions.{number_of}
use Rattle.durable_catalogue.proofs.Takings.{AreTaken}
use Rattle.durable_catalogue.proofs.taking.take_each.Given as goal

abbrev pub invariant-loop-frame : goal.invariant-loop-frame
invariant-loop-frame g l =
    (goal.iterator-loop-frame g).can_next l.frame-iterator ×
    (goal.iterator-loop-frame g).is_finite l.frame-iterator ×
    AreTaken (g.T.EntryTaker.has l.fn.taker l.taker) l.limits.bytes (number_of l.fn.version) l.fn.frames.items (length l.yielded) l.counter l.left
