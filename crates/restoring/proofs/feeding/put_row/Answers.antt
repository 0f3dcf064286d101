use Rattle.std.proofs.Common.{◌∙◌, arith}
use Rattle.std.specs.Vec.Iter.{into_iter_items}
use Rattle.iso2709_record.proofs.Lengths.{record_bounds}
use Rattle.restoring.proofs.Tying.{put_first, is_there, next_within, next_whole, put_new, put_more, put_all}
use Rattle.restoring.proofs.feeding.put_row.Goals as goal
use Rattle.restoring.proofs.feeding.put_row.Goals.{then-not-is_new+in_ok-put_tie, else-not-is_new}

pub loop-tie-init : goal.loop-tie-init
loop-tie-init c =
    put_first c.args.row (into_iter_items c.into_iter-tie-iterator.result) c.args.store.now.state c.in_ok-number.number c.put_record.new.store
    (c.into_iter-tie-iterator.ensures.into_iter_gives.0 ∙ c.into_vec-tie-items.ensures) c.in_ok-number.ensures.number c.in_ok-number.ensures.key c.in_ok-number.ensures.state

pub put_tie-requires-clause-there : goal.put_tie-requires-clause-there
put_tie-requires-clause-there c =
    is_there c.args.row (into_iter_items c.loop-tie.tie-iterator) c.args.store.now.state c.loop-tie.seat c.loop-tie.store c.requires.last c.loop-tie.invariant

pub put_tie-requires-clause-whole : goal.put_tie-requires-clause-whole
put_tie-requires-clause-whole c =
    next_whole c.args.row (into_iter_items c.loop-tie.tie-iterator) c.in-Some.tie (into_iter_items c.next.new.self) c.args.store.now.state c.loop-tie.seat c.loop-tie.store
    c.in-Some.ensures.steps.0 c.loop-tie.invariant c.requires.sound.fields

pub overflow_add-seat : goal.overflow_add-seat
overflow_add-seat c =
    let low = next_within c.args.row (into_iter_items c.loop-tie.tie-iterator) c.in-Some.tie (into_iter_items c.next.new.self) c.args.store.now.state c.loop-tie.seat c.loop-tie.store
    c.in-Some.ensures.steps.0 c.loop-tie.invariant in
    let few = (record_bounds c.args.row.rec.leader c.args.row.rec.fields c.args.row.rec.valid).0 in
    omega (arith, low, few)

pub loop-tie-preserved-after-not-is_new-2 : goal.loop-tie-preserved-after-not-is_new-2
loop-tie-preserved-after-not-is_new-2 c =
    let more = put_more c.args.row (into_iter_items c.loop-tie.tie-iterator) c.in-Some.tie (into_iter_items c.next.new.self) c.args.store.now.state c.loop-tie.seat c.loop-tie.store
    c.in-Some.ensures.steps.0 c.loop-tie.invariant in
    let same = put_new c.args.row (into_iter_items c.loop-tie.tie-iterator) c.in-Some.tie (into_iter_items c.next.new.self) c.args.store.now.state c.loop-tie.seat c.loop-tie.store
    c.in-Some.ensures.steps.0 c.loop-tie.invariant in
    elim c.if-not-is_new.branch [
      | then-not-is_new+in_ok-put_tie w ↦ rw w.store-is (more w.put_tie.new.store c.requires.last w.in_ok-put_tie.ensures.ok w.in_ok-put_tie.ensures.ahead)
      | else-not-is_new w ↦ rw w.store-is (same (c.is_new.ensures.0 w.if-not-is_new.false))
    ]

pub loop-tie-preserved : goal.loop-tie-preserved
loop-tie-preserved c =
    let more = put_more c.args.row (into_iter_items c.loop-tie.tie-iterator) c.in-Some.tie (into_iter_items c.next.new.self) c.args.store.now.state c.loop-tie.seat c.loop-tie.store
    c.in-Some.ensures.steps.0 c.loop-tie.invariant in
    let same = put_new c.args.row (into_iter_items c.loop-tie.tie-iterator) c.in-Some.tie (into_iter_items c.next.new.self) c.args.store.now.state c.loop-tie.seat c.loop-tie.store
    c.in-Some.ensures.steps.0 c.loop-tie.invariant in
    elim c.if-not-is_new.branch [
      | then-not-is_new+in_ok-put_tie w ↦ rw w.store-is (more w.put_tie.new.store c.requires.last w.in_ok-put_tie.ensures.ok w.in_ok-put_tie.ensures.ahead)
      | else-not-is_new w ↦ rw w.store-is (same (c.is_new.ensures.0 w.if-not-is_new.false))
    ]

pub returns : goal.returns
returns c =
    put_all c.args.row (into_iter_items c.loop-tie.tie-iterator) c.args.store.now.state c.loop-tie.seat c.loop-tie.store
    (omega (arith, c.in-None.ensures.steps.0, c.loop-tie.tie-iterator.rest.ok.0)) c.loop-tie.invariant
