use Rattle.std.proofs.lemmas.List.{get_or_default}
use Rattle.field_settling.specs.Held.{heading_as}
use Rattle.commit_stages.proofs.Notes.{noting_begins}
use Rattle.commit_stages.proofs.Turning.{ahead_then}
use Rattle.commit_stages.specs.Carrying.{carry_heading}
use Rattle.commit_stages.proofs.CarriedField.{carry_all_noted, carry_begins, carry_ends, carry_goes_on, carry_notes, carry_to_do, carry_visits_end, carry_visits_stop, heading_stays}
use Rattle.commit_stages.proofs.carrying.carry_to.Goals as goal

pub loop-seat-init : goal.loop-seat-init
loop-seat-init g c = (
  carry_begins c.args.key.now (heading_as c.args.heading) c.args.seats.now c.args.store.now c.args.steps.now c.requires.heading c.requires.middle,
  noting_begins (carry_heading c.args.key.now (heading_as c.args.heading)) c.args.store.now c.args.noted.now,
)

pub carry_at-requires-clause-to_do : goal.carry_at-requires-clause-to_do
carry_at-requires-clause-to_do g c =
    carry_to_do c.args.key.now (heading_as c.args.heading) c.args.seats.now c.args.store.now c.args.steps.now c.requires.heading c.loop-seat.seat-index _ c.loop-seat.store
    c.loop-seat.steps c.loop-seat-test.true (get_or_default c.args.seats.now c.loop-seat.seat-index _ _ c.loop-seat-test.true) c.requires.lists c.loop-seat.invariant.0

pub carry_at-requires-clause-heading : goal.carry_at-requires-clause-heading
carry_at-requires-clause-heading g c = heading_stays c.args.key.now (heading_as c.args.heading) _ c.requires.heading _ c.loop-seat.invariant.0.way.middle.authorities_are

pub carry_at-requires-clause-middle : goal.carry_at-requires-clause-middle
carry_at-requires-clause-middle g c = c.loop-seat.invariant.0.way.middle.middle

pub loop-seat-preserved : goal.loop-seat-preserved
loop-seat-preserved g c = (
  carry_goes_on c.args.key.now (heading_as c.args.heading) c.args.seats.now c.args.store.now c.args.steps.now c.requires.heading c.loop-seat.seat-index _ c.loop-seat.store
      c.loop-seat.steps c.loop-seat-test.true (get_or_default c.args.seats.now c.loop-seat.seat-index _ _ c.loop-seat-test.true) c.requires.lists c.loop-seat.invariant.0 c.carry_at.new.store c.carry_at.new.steps c.in_ok-carry_at.ensures.ok c.carry_at.ensures.visits,
  carry_notes c.args.key.now (heading_as c.args.heading) c.args.seats.now c.args.store.now c.args.steps.now c.requires.heading c.loop-seat.seat-index _ c.loop-seat.store
      c.loop-seat.steps c.loop-seat-test.true (get_or_default c.args.seats.now c.loop-seat.seat-index _ _ c.loop-seat-test.true) c.requires.lists c.loop-seat.invariant.0
      c.args.noted.now c.loop-seat.noted c.carry_at.new.noted c.loop-seat.invariant.1 c.in_ok-carry_at.ensures.noted,
)

pub returns-in_err-carry_at-clause-ahead : goal.returns-in_err-carry_at-clause-ahead
returns-in_err-carry_at-clause-ahead g c =
    ahead_then c.args.store.now c.loop-seat.store c.carry_at.new.store c.loop-seat.invariant.0.way.ahead c.carry_at.ensures.ahead

pub returns-in_err-carry_at-clause-visits : goal.returns-in_err-carry_at-clause-visits
returns-in_err-carry_at-clause-visits g c =
    carry_visits_stop c.args.key.now (heading_as c.args.heading) c.args.seats.now c.args.store.now c.args.steps.now c.requires.heading c.loop-seat.seat-index _ c.loop-seat.store
    c.loop-seat.steps c.loop-seat-test.true (get_or_default c.args.seats.now c.loop-seat.seat-index _ _ c.loop-seat-test.true) c.requires.lists c.loop-seat.invariant.0 c.carry_at.new.steps c.carry_at.ensures.visits

pub returns-clause-ok : goal.returns-clause-ok
returns-clause-ok g c =
    carry_ends c.args.key.now (heading_as c.args.heading) c.args.seats.now c.args.store.now c.args.steps.now c.requires.heading c.loop-seat.seat-index c.loop-seat.store c.loop-seat.steps
    c.loop-seat-test.false c.loop-seat.invariant.0 c.requires.lists c.requires.middle

pub returns-clause-ahead : goal.returns-clause-ahead
returns-clause-ahead g c = c.loop-seat.invariant.0.way.ahead

pub returns-clause-visits : goal.returns-clause-visits
returns-clause-visits g c =
    carry_visits_end c.args.key.now (heading_as c.args.heading) c.args.seats.now c.args.store.now c.args.steps.now c.requires.heading c.loop-seat.seat-index c.loop-seat.store c.loop-seat.steps
    c.loop-seat-test.false c.loop-seat.invariant.0 c.requires.lists

pub returns-clause-noted : goal.returns-clause-noted
returns-clause-noted g c =
    carry_all_noted c.args.key.now (heading_as c.args.heading) c.args.seats.now c.args.store.now c.args.steps.now c.requires.heading c.loop-seat.seat-index c.loop-seat.store c.loop-seat.steps
    c.loop-seat-test.false c.loop-seat.invariant.0 c.requires.lists c.args.noted.now c.loop-seat.noted c.each_key_has_one_number.ensures c.loop-seat.invariant.1
