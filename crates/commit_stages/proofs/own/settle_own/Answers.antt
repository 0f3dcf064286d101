use Rattle.std.proofs.Common.{◌<◌, ◌≤◌, ◌∙◌, ap, arith, length, List}
use Rattle.entry_record.specs.Authority.{Linkable}
use Rattle.catalogue_rules.specs.State.{linkable_authorities, new_field}
use Rattle.commit_stages.specs.OwnFields.{fields_in}
use Rattle.commit_stages.specs.Standing.{stands_settled}
use Rattle.commit_stages.proofs.CountedFields.{counts_begin, counts_end, counts_go_on, counts_room}
use Rattle.commit_stages.proofs.InTurn.{own_begins, own_cost, own_ends, own_few, own_goes_on, own_stands, own_stops, own_to_do, own_visits_end, own_visits_stop, there_is}
use Rattle.commit_stages.proofs.own.settle_own.Goals as goal

pub loop-place-init : goal.loop-place-init
loop-place-init g c =
    let fields = fields_in c.args.class c.args.number c.args.store.now in (
      own_begins c.args.class c.args.number fields c.args.store.now c.args.steps.now c.requires.number c.requires.came c.requires.middle,
      counts_begin (linkable_authorities c.args.store.now.state) c.args.class fields,
    )

pub settle_own_at-requires-clause-to_do : goal.settle_own_at-requires-clause-to_do
settle_own_at-requires-clause-to_do g c =
    let fields = fields_in c.args.class c.args.number c.args.store.now in
    let low : c.loop-place.place < length fields = omega (arith, c.loop-place-test.true, c.places_in-places.ensures) in
    let f = there_is fields c.loop-place.place low in
    own_to_do c.args.class c.args.number fields c.args.store.now c.args.steps.now c.requires.number c.requires.came c.loop-place.place f.0 c.loop-place.store c.loop-place.steps low f.1
    c.loop-place.invariant.0

pub settle_own_at-requires-clause-middle : goal.settle_own_at-requires-clause-middle
settle_own_at-requires-clause-middle g c = c.loop-place.invariant.0.way.middle.middle

pub loop-place-preserved : goal.loop-place-preserved
loop-place-preserved g c =
    let fields = fields_in c.args.class c.args.number c.args.store.now in
    let low : c.loop-place.place < length fields = omega (arith, c.loop-place-test.true, c.places_in-places.ensures) in
    let f = there_is fields c.loop-place.place low in
    let stands =
    own_stands c.args.class c.args.number fields c.args.store.now c.args.steps.now c.requires.number c.requires.came c.loop-place.place f.0 c.loop-place.store c.loop-place.steps low f.1
    c.loop-place.invariant.0 in (
      own_goes_on c.args.class c.args.number fields c.args.store.now c.args.steps.now c.requires.number c.requires.came c.loop-place.place f.0 c.loop-place.store c.loop-place.steps low f.1
          c.loop-place.invariant.0 c.settle_own_at.new.store c.settle_own_at.new.steps c.in_ok-stands.ensures.ok
          (own_cost _ c.loop-place.store _ _ c.loop-place.steps c.settle_own_at.new.steps stands c.settle_own_at.ensures.visits),
      counts_go_on (linkable_authorities c.args.store.now.state) c.args.class fields c.loop-place.place low f.0 f.1
          c.loop-place.counts c.counted-counts.result c.in_ok-stands.stands c.loop-place.invariant.1
          (c.in_ok-stands.ensures.stands (new_field f.0) stands
          ∙ ap (λ (l : List Linkable). stands_settled l c.args.class (new_field f.0)) c.loop-place.invariant.0.way.middle.authorities_are)
          c.counted-counts.ensures.linked c.counted-counts.ensures.ambiguous c.counted-counts.ensures.unlinked,
    )

pub counted-counts-requires : goal.counted-counts-requires
counted-counts-requires g c =
    let fields = fields_in c.args.class c.args.number c.args.store.now in
    let low : c.loop-place.place < length fields = omega (arith, c.loop-place-test.true, c.places_in-places.ensures) in
    counts_room (linkable_authorities c.args.store.now.state) c.args.class fields c.loop-place.place low c.loop-place.counts
    (own_few c.args.class c.args.number fields c.args.store.now c.args.steps.now c.requires.number c.requires.came c.is_proper.ensures) c.loop-place.invariant.1

pub returns-in_err-stands-clause-ahead : goal.returns-in_err-stands-clause-ahead
returns-in_err-stands-clause-ahead g c =
    let fields = fields_in c.args.class c.args.number c.args.store.now in
    let low : c.loop-place.place < length fields = omega (arith, c.loop-place-test.true, c.places_in-places.ensures) in
    let f = there_is fields c.loop-place.place low in
    own_stops c.args.class c.args.number fields c.args.store.now c.args.steps.now c.requires.number c.requires.came c.loop-place.place f.0 c.loop-place.store c.loop-place.steps low f.1
    c.loop-place.invariant.0 c.settle_own_at.new.store c.settle_own_at.ensures.ahead

pub returns-in_err-stands-clause-visits : goal.returns-in_err-stands-clause-visits
returns-in_err-stands-clause-visits g c =
    let fields = fields_in c.args.class c.args.number c.args.store.now in
    let low : c.loop-place.place < length fields = omega (arith, c.loop-place-test.true, c.places_in-places.ensures) in
    let f = there_is fields c.loop-place.place low in
    let stands =
    own_stands c.args.class c.args.number fields c.args.store.now c.args.steps.now c.requires.number c.requires.came c.loop-place.place f.0 c.loop-place.store c.loop-place.steps low f.1
    c.loop-place.invariant.0 in
    own_visits_stop c.args.class c.args.number fields c.args.store.now c.args.steps.now c.requires.number c.requires.came c.loop-place.place f.0 c.loop-place.store c.loop-place.steps low f.1
    c.loop-place.invariant.0 c.settle_own_at.new.steps (own_cost _ c.loop-place.store _ _ c.loop-place.steps c.settle_own_at.new.steps stands c.settle_own_at.ensures.visits)

pub returns-clause-ok : goal.returns-clause-ok
returns-clause-ok g c =
    let fields = fields_in c.args.class c.args.number c.args.store.now in
    let past : length fields ≤ c.loop-place.place = omega (arith, c.loop-place-test.false, c.places_in-places.ensures) in
    own_ends c.args.class c.args.number fields c.args.store.now c.args.steps.now c.requires.number c.requires.came c.loop-place.place c.loop-place.store c.loop-place.steps
    past c.loop-place.invariant.0 c.requires.middle

pub returns-clause-counts : goal.returns-clause-counts
returns-clause-counts g c =
    let fields = fields_in c.args.class c.args.number c.args.store.now in
    let past : length fields ≤ c.loop-place.place = omega (arith, c.loop-place-test.false, c.places_in-places.ensures) in
    counts_end (linkable_authorities c.args.store.now.state) c.args.class fields c.loop-place.place c.loop-place.counts past c.loop-place.invariant.1

pub returns-clause-ahead : goal.returns-clause-ahead
returns-clause-ahead g c = c.loop-place.invariant.0.way.ahead

pub returns-clause-visits : goal.returns-clause-visits
returns-clause-visits g c =
    let fields = fields_in c.args.class c.args.number c.args.store.now in
    let past : length fields ≤ c.loop-place.place = omega (arith, c.loop-place-test.false, c.places_in-places.ensures) in
    own_visits_end c.args.class c.args.number fields c.args.store.now c.args.steps.now c.requires.number c.requires.came c.loop-place.place c.loop-place.store c.loop-place.steps
    past c.loop-place.invariant.0
