use Rattle.std.specs.Vec.Iter.{into_iter_items}
use Rattle.restoring.proofs.Fed.{IsFed}
use Rattle.restoring.proofs.feeding.feed.Given as goal

abbrev pub invariant-loop-row : goal.invariant-loop-row
invariant-loop-row l = IsFed l.fn.rows.items (into_iter_items l.row-iterator) l.store.state
