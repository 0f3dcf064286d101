use Rattle.std.proofs.Common.{rules, ap, ◌∙◌}
use Rattle.catalogue_lock.proofs.Meeting.{last_own, gathers_first, gathers_more, gathers_all}
use Rattle.catalogue_lock.proofs.sharing.gather.Goals as goal

pub take_in-requires-clause-own : goal.take_in-requires-clause-own
take_in-requires-clause-own g c = last_own _ _ _ _ c.in-Some-pop.ensures.items c.loop-pass.invariant.1.own

pub take_in-requires-clause-free : goal.take_in-requires-clause-free
take_in-requires-clause-free g c =
    let seat = c.loop-pass.invariant.1.gathered in
    (seat.running, seat.idle, seat.hands)

pub loop-pass-init : goal.loop-pass-init
loop-pass-init g c =
    let first = c.into_seat-seat.ensures in (
      ap (λ p. p.lock) first.seat ∙ last_own _ _ _ _ c.in-Some.ensures.items c.requires.own,
      gathers_first _ _ _ _ c.into_seat-seat.result.table_id _ c.in-Some.ensures.items c.requires.own first.seat first.rest,
    )

pub loop-pass-preserved : goal.loop-pass-preserved
loop-pass-preserved g c =
    let has = c.loop-pass.invariant in (
      c.take_in.ensures.seat.0 ∙ has.0,
      gathers_more _ _ c.loop-pass.left.items _ c.in-Some-pop.pass _ _ has.1 c.in-Some-pop.ensures.items (c.take_in.ensures.more has.1.done has.1.gathered),
    )

pub returns-clause-all : goal.returns-clause-all
returns-clause-all g c = gathers_all _ _ _ _ c.loop-pass.invariant.1 (search rules)
