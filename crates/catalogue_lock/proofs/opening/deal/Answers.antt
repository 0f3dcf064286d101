use Rattle.std.proofs.Common.{◌+◌, ◌<◌, ◌≤◌, length, rules, refl, ap, sym, subst, ◌∙◌, arith}
use Rattle.catalogue_lock.specs.Views.{pass_at}
use Rattle.catalogue_lock.specs.Steps.{Deals}
use Rattle.catalogue_lock.proofs.Splitting.{deals}
use Rattle.catalogue_lock.proofs.Dealing.{deals_none, deals_more, deals_all, dealt_rests, last_rests}
use Rattle.catalogue_lock.proofs.opening.deal.Goals as goal

pub split_seat-next-requires : goal.split_seat-next-requires
split_seat-next-requires g c =
    let view = c.loop-seat.invariant.2.view in
    (search rules, search rules, deals _ _ _ _ _ (ap (λ m. m.0.opening) view) (ap (λ m. m.0.stage) view) (ap (λ m. m.0.draws) view))

pub loop-seat-init : goal.loop-seat-init
loop-seat-init g c = (refl, c.requires.room.1, deals_none _ _ _ _ _ _ c.requires.callers c.requires.room.0 c.requires.seat)

pub loop-seat-preserved : goal.loop-seat-preserved
loop-seat-preserved g c =
    let inv = c.loop-seat.invariant in
    let cut = c.split_seat-next.ensures in
    let more : length c.loop-seat.passes.items + 1 < c.args.steps.now.key.callers = omega (arith, c.len.ensures, c.capacity.ensures, c.loop-seat.invariant.1, c.loop-seat-test.true) in (
      cut.0 ∙ inv.0,
      search rules,
      subst (λ items. Deals c.args.seat.table_id c.args.steps.now.key.object c.args.seat.me.0.seen c.args.steps.now.key.callers items c.split_seat-next.new.seat.me)
          (sym c.push_reserved.ensures.items)
          (deals_more _ _ _ _ _ _ c.loop-seat.passes.items _ inv.2 more cut.2 (λ i. pass_at ((cut.3 ∙ inv.0) i) (cut.4 i).0)),
    )

pub invariant_of-push_reserved : goal.invariant_of-push_reserved
invariant_of-push_reserved g c = dealt_rests _ _ _ _ _ _ _ c.loop-seat.invariant.2 c.requires.seen c.split_seat-next.ensures.4

pub invariant_of-push_reserved-2 : goal.invariant_of-push_reserved-2
invariant_of-push_reserved-2 g c =
    let end : c.args.steps.now.key.callers ≤ length c.loop-seat.passes.items + 1 = omega (arith, c.len.ensures, c.capacity.ensures, c.loop-seat.invariant.1, c.loop-seat-test.false) in
    last_rests _ _ _ _ _ _ c.loop-seat.invariant.2 end c.requires.seen

pub returns : goal.returns
returns g c =
    let inv = c.loop-seat.invariant in
    let end : c.args.steps.now.key.callers ≤ length c.loop-seat.passes.items + 1 = omega (arith, c.len.ensures, c.capacity.ensures, c.loop-seat.invariant.1, c.loop-seat-test.false) in
    c.push_reserved-2.ensures.items
    ∙ deals_all c.args.seat.table_id _ _ _ c.loop-seat.seat.me _ _ inv.2 end (ap (λ t. pass_at t c.loop-seat.seat.me.0) inv.0)
