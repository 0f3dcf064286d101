use Rattle.std.proofs.Common.{subst}
use Rattle.std.specs.List.Sorted.{IsStable}
use Rattle.holdings.specs.ByTarget.{target_cmp}
use Rattle.holdings.proofs.ByTarget.{sorted_by_target}
use Rattle.holdings.proofs.groups.HoldingGroups.of.Goals as goal

pub invariant_of-result : goal.invariant_of-result
invariant_of-result c =
    sorted_by_target c.args.shelf.now c.sort_by_target.new.rows.items c.in_ok-sort_by_target.ensures.sorted
    (subst (λ rows. IsStable target_cmp rows c.sort_by_target.new.rows.items) c.in_ok-rows.ensures c.sort_by_target.ensures.stable)
