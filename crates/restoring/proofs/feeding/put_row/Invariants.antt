use Rattle.std.specs.Vec.Iter.{into_iter_items}
use Rattle.restoring.proofs.Tying.{IsPutTo}
use Rattle.restoring.proofs.feeding.put_row.Given as goal

abbrev pub invariant-loop-tie : goal.invariant-loop-tie
invariant-loop-tie l = IsPutTo l.fn.row (into_iter_items l.tie-iterator) l.fn.store.state l.seat l.store
