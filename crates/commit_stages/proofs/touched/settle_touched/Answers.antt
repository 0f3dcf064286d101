use Rattle.std.proofs.lemmas.List.{get_or_default}
use Rattle.marc_types.specs.declared.key.Class.TheVariants.{Authority}
use Rattle.catalogue_rules.specs.State.{linkable_authorities}
use Rattle.catalogue_tables.specs.Lent.{shown_forms}
use Rattle.linking_laws.specs.Stages.{choose_field}
use Rattle.linked_store.specs.Linked.{key_of}
use Rattle.commit_stages.proofs.Notes.{noting_begins}
use Rattle.commit_stages.proofs.Turning.{ahead_itself, ahead_then}
use Rattle.commit_stages.proofs.Choosing.{choosing_all_noted, choosing_begins, choosing_ends, choosing_goes_on, choosing_notes, choosing_to_do, choosing_visits_end, choosing_visits_stop, lists_lent}
use Rattle.commit_stages.proofs.touched.settle_touched.Goals as goal

pub loop-seat-init : goal.loop-seat-init
loop-seat-init g c = (
  choosing_begins (shown_forms c.args.forms.now) (key_of Authority c.args.number c.args.store.now.keys) c.deref-seat-items.result.now c.args.store.now c.args.steps.now c.requires.middle,
  noting_begins (choose_field (linkable_authorities c.args.store.now.state) (shown_forms c.args.forms.now) (key_of Authority c.args.number c.args.store.now.keys)) c.args.store.now c.args.noted.now,
)

pub settle_at-requires-clause-to_do : goal.settle_at-requires-clause-to_do
settle_at-requires-clause-to_do g c =
    choosing_to_do (shown_forms c.args.forms.now) (key_of Authority c.args.number c.args.store.now.keys) c.deref-seat-items.result.now c.args.store.now c.args.steps.now c.loop-seat.seat-index _ c.loop-seat.store c.loop-seat.steps
    c.loop-seat-test.true (get_or_default c.deref-seat-items.result.now c.loop-seat.seat-index _ _ c.loop-seat-test.true) (lists_lent _ _ _ _ c.deref-seat-items.ensures.value c.in_ok-seats.ensures) c.loop-seat.invariant.0

pub settle_at-requires-clause-middle : goal.settle_at-requires-clause-middle
settle_at-requires-clause-middle g c = c.loop-seat.invariant.0.way.middle.middle

pub loop-seat-preserved : goal.loop-seat-preserved
loop-seat-preserved g c = (
  choosing_goes_on (shown_forms c.args.forms.now) (key_of Authority c.args.number c.args.store.now.keys) c.deref-seat-items.result.now c.args.store.now c.args.steps.now c.loop-seat.seat-index _ c.loop-seat.store c.loop-seat.steps
      c.loop-seat-test.true (get_or_default c.deref-seat-items.result.now c.loop-seat.seat-index _ _ c.loop-seat-test.true) (lists_lent _ _ _ _ c.deref-seat-items.ensures.value c.in_ok-seats.ensures) c.loop-seat.invariant.0 c.settle_at.new.store c.settle_at.new.steps c.in_ok-settle_at.ensures.ok c.settle_at.ensures.visits,
  choosing_notes (shown_forms c.args.forms.now) (key_of Authority c.args.number c.args.store.now.keys) c.deref-seat-items.result.now c.args.store.now c.args.steps.now c.loop-seat.seat-index _ c.loop-seat.store c.loop-seat.steps
      c.loop-seat-test.true (get_or_default c.deref-seat-items.result.now c.loop-seat.seat-index _ _ c.loop-seat-test.true) (lists_lent _ _ _ _ c.deref-seat-items.ensures.value c.in_ok-seats.ensures) c.loop-seat.invariant.0
      c.args.noted.now c.loop-seat.noted c.settle_at.new.noted c.loop-seat.invariant.1 c.in_ok-settle_at.ensures.noted,
)

pub returns-in_err-settle_at-clause-ahead : goal.returns-in_err-settle_at-clause-ahead
returns-in_err-settle_at-clause-ahead g c =
    ahead_then c.args.store.now c.loop-seat.store c.settle_at.new.store c.loop-seat.invariant.0.way.ahead c.settle_at.ensures.ahead

pub returns-in_err-settle_at-clause-visits : goal.returns-in_err-settle_at-clause-visits
returns-in_err-settle_at-clause-visits g c =
    choosing_visits_stop (shown_forms c.args.forms.now) (key_of Authority c.args.number c.args.store.now.keys) c.deref-seat-items.result.now c.args.store.now c.args.steps.now c.loop-seat.seat-index _ c.loop-seat.store c.loop-seat.steps
    c.loop-seat-test.true (get_or_default c.deref-seat-items.result.now c.loop-seat.seat-index _ _ c.loop-seat-test.true) (lists_lent _ _ _ _ c.deref-seat-items.ensures.value c.in_ok-seats.ensures) c.loop-seat.invariant.0 c.settle_at.new.steps c.settle_at.ensures.visits

pub returns-in_err-seats-clause-ahead : goal.returns-in_err-seats-clause-ahead
returns-in_err-seats-clause-ahead g c = ahead_itself c.args.store.now

pub returns-clause-ok : goal.returns-clause-ok
returns-clause-ok g c =
    choosing_ends (shown_forms c.args.forms.now) (key_of Authority c.args.number c.args.store.now.keys) c.deref-seat-items.result.now c.args.store.now c.args.steps.now c.loop-seat.seat-index c.loop-seat.store c.loop-seat.steps
    c.loop-seat-test.false c.loop-seat.invariant.0 (lists_lent _ _ _ _ c.deref-seat-items.ensures.value c.in_ok-seats.ensures) c.requires.middle

pub returns-clause-ahead : goal.returns-clause-ahead
returns-clause-ahead g c = c.loop-seat.invariant.0.way.ahead

pub returns-clause-visits : goal.returns-clause-visits
returns-clause-visits g c =
    choosing_visits_end (shown_forms c.args.forms.now) (key_of Authority c.args.number c.args.store.now.keys) c.deref-seat-items.result.now c.args.store.now c.args.steps.now c.loop-seat.seat-index c.loop-seat.store c.loop-seat.steps
    c.loop-seat-test.false c.loop-seat.invariant.0 (lists_lent _ _ _ _ c.deref-seat-items.ensures.value c.in_ok-seats.ensures)

pub returns-clause-noted : goal.returns-clause-noted
returns-clause-noted g c =
    choosing_all_noted (shown_forms c.args.forms.now) (key_of Authority c.args.number c.args.store.now.keys) c.deref-seat-items.result.now c.args.store.now c.args.steps.now c.loop-seat.seat-index c.loop-seat.store c.loop-seat.steps
    c.loop-seat-test.false c.loop-seat.invariant.0 (lists_lent _ _ _ _ c.deref-seat-items.ensures.value c.in_ok-seats.ensures) c.args.noted.now c.loop-seat.noted c.each_key_has_one_number.ensures c.loop-seat.invariant.1
