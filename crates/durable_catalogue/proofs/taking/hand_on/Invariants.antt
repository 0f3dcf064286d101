use Rattle.std.proofs.Common.{ℕ, List, ◌++◌}
use Rattle.marc_types.specs.declared.entry.Entry.{Entry}
use Rattle.durable_catalogue.specs.Taking.{HasLeft}
use Rattle.durable_catalogue.proofs.taking.hand_on.Given as goal

abbrev pub invariant-loop-item : goal.invariant-loop-item
invariant-loop-item g l =
    (goal.iterator-loop-item g).can_next l.item-iterator ×
    (goal.iterator-loop-item g).is_finite l.item-iterator ×
    ((begun : _) (before : List Entry) → g.T.EntryTaker.has begun l.fn.taker before → g.T.EntryTaker.has begun l.taker (before ++ l.yielded)) ×
    ((bytes : ℕ) (before : List Entry) → HasLeft bytes before l.fn.left → HasLeft bytes (before ++ l.yielded) l.left)
