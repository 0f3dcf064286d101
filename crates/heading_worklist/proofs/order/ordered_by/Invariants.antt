use Rattle.std.proofs.Common.{◌≡◌, [], map, take}
use Rattle.std.specs.Prelude.{fold}
use Rattle.std.specs.BTreeSet.{insert_key}
use Rattle.heading_worklist.specs.Counting.{counted_by}
use Rattle.heading_worklist.specs.Counts.{counted_cmp}
use Rattle.heading_worklist.proofs.order.ordered_by.Given as goal

abbrev pub invariant-loop-heading : goal.invariant-loop-heading
invariant-loop-heading l =
    l.lines.keys ≡ fold (insert_key counted_cmp) [] (map (counted_by l.full l.base) (take l.heading-index l.all))
