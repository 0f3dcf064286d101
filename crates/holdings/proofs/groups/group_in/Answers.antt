use Rattle.std.proofs.Common.{rules}
use Rattle.holdings.proofs.ByTarget.{places_in_order, group_between}
use Rattle.holdings.proofs.groups.group_in.Goals as goal

pub slice_bounds-result-count : goal.slice_bounds-result-count
slice_bounds-result-count c =
    places_in_order c.args.key.now c.args.rows.now _ _ c.count_below-first.ensures.place c.count_upto-end.ensures.place c.count_below-first.ensures.bound

pub slice_bounds-result-start : goal.slice_bounds-result-start
slice_bounds-result-start c =
    let in_order = places_in_order c.args.key.now c.args.rows.now _ _ c.count_below-first.ensures.place c.count_upto-end.ensures.place c.count_below-first.ensures.bound in
    search (rules, in_order)

pub returns : goal.returns
returns c = group_between c.args.key.now c.args.rows.now _ _ c.count_below-first.ensures.place c.count_upto-end.ensures.place
