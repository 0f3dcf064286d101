use Rattle.std.proofs.Common.{◌≡◌, ◌++◌, fold}
use Rattle.std.specs.Vec.Iter.{into_iter_items}
use Rattle.left_right.specs.Handles.{published, pending}
use Rattle.browse_readers.proofs.writer.append_all.Given as goal

-- readers see what they saw, the front has the entries so far, and the pending changes lead to it
abbrev pub invariant-loop-heading : goal.invariant-loop-heading
invariant-loop-heading g l = (published l.handle ≡ published l.fn.handle)
    × (l.front ++ into_iter_items l.heading-iterator ≡ l.fn.front ++ l.fn.headings)
    × (fold (λ list addition. addition) (published l.handle) (pending l.handle) ≡ l.front)
