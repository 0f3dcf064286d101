use Rattle.std.proofs.Common.{◌∙◌, ap}
use Rattle.std.specs.Vec.Iter.{into_iter_items}
use Rattle.linked_store.specs.Linked.{Linked}
use Rattle.restoring.proofs.Fed.{none_fed, next_behind, one_fed}
use Rattle.restoring.proofs.feeding.feed.Goals as goal

pub loop-row-init : goal.loop-row-init
loop-row-init c =
    none_fed c.args.rows.items (into_iter_items c.into_iter-row-iterator.result) c.args.store.now.state c.into_iter-row-iterator.ensures.into_iter_gives.0 c.requires.empty

pub put_row-requires-clause-last : goal.put_row-requires-clause-last
put_row-requires-clause-last c =
    next_behind c.args.rows.items (into_iter_items c.loop-row.row-iterator) c.in-Some.row (into_iter_items c.next.new.self) c.loop-row.store.state c.requires.order
    c.in-Some.ensures.steps.0 c.loop-row.invariant

pub loop-row-preserved : goal.loop-row-preserved
loop-row-preserved c =
    one_fed c.args.rows.items (into_iter_items c.loop-row.row-iterator) c.in-Some.row (into_iter_items c.next.new.self) c.loop-row.store.state _
    (ap (λ (x : Linked). x.state) c.keep.ensures ∙ c.in_ok-put_row.ensures) c.in-Some.ensures.steps.0 c.loop-row.invariant
