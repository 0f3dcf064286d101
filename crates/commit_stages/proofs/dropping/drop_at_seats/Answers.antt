use Rattle.std.proofs.lemmas.List.{get_or_default}
use Rattle.catalogue_rules.specs.State.{linkable_authorities}
use Rattle.commit_stages.proofs.Notes.{noting_begins}
use Rattle.commit_stages.proofs.Turning.{ahead_then}
use Rattle.commit_stages.specs.Dropping.{drop_ending, dropping_of, successor_to}
use Rattle.commit_stages.proofs.Dropped.{drop_all_noted, drop_at_first, drop_at_next, drop_done, drop_notes, drop_to_do, drop_turn, drop_visits_at_last, drop_visits_at_stop}
use Rattle.commit_stages.proofs.dropping.drop_at_seats.Goals as goal

pub loop-seat-init : goal.loop-seat-init
loop-seat-init g c = (
  drop_at_first (dropping_of c.args.links) c.args.links.key.now (successor_to c.args.links) c.args.seats.now c.args.store.now c.args.steps.now c.requires.can,
  noting_begins (drop_ending c.args.links (linkable_authorities c.args.store.now.state)) c.args.store.now c.args.noted.now,
)

pub drop_at-requires-clause-to_do : goal.drop_at-requires-clause-to_do
drop_at-requires-clause-to_do g c =
    drop_to_do (dropping_of c.args.links) c.args.links.key.now (successor_to c.args.links) c.args.seats.now c.args.store.now c.args.steps.now
    c.loop-seat.seat-index _ c.loop-seat.store c.loop-seat.steps c.loop-seat-test.true (get_or_default c.args.seats.now c.loop-seat.seat-index _ _ c.loop-seat-test.true) c.requires.lists c.loop-seat.invariant.0

pub drop_at-requires-clause-turn : goal.drop_at-requires-clause-turn
drop_at-requires-clause-turn g c =
    drop_turn (dropping_of c.args.links) c.args.links.key.now (successor_to c.args.links) c.args.seats.now c.args.store.now c.args.steps.now
    c.loop-seat.seat-index _ c.loop-seat.store c.loop-seat.steps c.loop-seat-test.true (get_or_default c.args.seats.now c.loop-seat.seat-index _ _ c.loop-seat-test.true) c.requires.lists c.loop-seat.invariant.0

pub loop-seat-preserved : goal.loop-seat-preserved
loop-seat-preserved g c = (
  drop_at_next (dropping_of c.args.links) c.args.links.key.now (successor_to c.args.links) c.args.seats.now c.args.store.now c.args.steps.now
      c.loop-seat.seat-index _ c.loop-seat.store c.loop-seat.steps c.loop-seat-test.true (get_or_default c.args.seats.now c.loop-seat.seat-index _ _ c.loop-seat-test.true) c.requires.lists c.loop-seat.invariant.0
      c.drop_at.new.store c.drop_at.new.steps c.in_ok-drop_at.ensures.ok c.drop_at.ensures.visits,
  drop_notes (dropping_of c.args.links) c.args.links.key.now (successor_to c.args.links) c.args.seats.now c.args.store.now c.args.steps.now
      c.loop-seat.seat-index _ c.loop-seat.store c.loop-seat.steps c.loop-seat-test.true (get_or_default c.args.seats.now c.loop-seat.seat-index _ _ c.loop-seat-test.true) c.requires.lists c.loop-seat.invariant.0
      c.args.noted.now c.loop-seat.noted c.drop_at.new.noted c.loop-seat.invariant.1 c.in_ok-drop_at.ensures.noted,
)

pub returns-in_err-drop_at-clause-ahead : goal.returns-in_err-drop_at-clause-ahead
returns-in_err-drop_at-clause-ahead g c =
    ahead_then c.args.store.now c.loop-seat.store c.drop_at.new.store c.loop-seat.invariant.0.way.ahead c.drop_at.ensures.ahead

pub returns-in_err-drop_at-clause-visits : goal.returns-in_err-drop_at-clause-visits
returns-in_err-drop_at-clause-visits g c =
    drop_visits_at_stop (dropping_of c.args.links) c.args.links.key.now (successor_to c.args.links) c.args.seats.now c.args.store.now c.args.steps.now
    c.loop-seat.seat-index _ c.loop-seat.store c.loop-seat.steps c.loop-seat-test.true (get_or_default c.args.seats.now c.loop-seat.seat-index _ _ c.loop-seat-test.true) c.requires.lists c.loop-seat.invariant.0
    c.drop_at.new.steps c.drop_at.ensures.visits

pub returns-clause-ok : goal.returns-clause-ok
returns-clause-ok g c =
    drop_done (dropping_of c.args.links) c.args.links.key.now (successor_to c.args.links) c.args.seats.now c.args.store.now c.args.steps.now
    c.loop-seat.seat-index c.loop-seat.store c.loop-seat.steps c.loop-seat-test.false c.requires.lists c.loop-seat.invariant.0 c.requires.can

pub returns-clause-ahead : goal.returns-clause-ahead
returns-clause-ahead g c = c.loop-seat.invariant.0.way.ahead

pub returns-clause-visits : goal.returns-clause-visits
returns-clause-visits g c =
    drop_visits_at_last (dropping_of c.args.links) c.args.links.key.now (successor_to c.args.links) c.args.seats.now c.args.store.now c.args.steps.now
    c.loop-seat.seat-index c.loop-seat.store c.loop-seat.steps c.loop-seat-test.false c.requires.lists c.loop-seat.invariant.0

pub returns-clause-noted : goal.returns-clause-noted
returns-clause-noted g c =
    drop_all_noted (dropping_of c.args.links) c.args.links.key.now (successor_to c.args.links) c.args.seats.now c.args.store.now c.args.steps.now
    c.loop-seat.seat-index c.loop-seat.store c.loop-seat.steps c.loop-seat-test.false c.requires.lists c.loop-seat.invariant.0 c.args.noted.now c.loop-seat.noted c.requires.can
    c.each_key_has_one_number.ensures c.loop-seat.invariant.1
