use Rattle.std.proofs.Common.{[], ◌∷◌, ◌++◌, ◌∙◌, length, arith, length-append}
use Rattle.std.proofs.lemmas.Iterator.Adapters.{YieldsList-from_vec}
use Rattle.std.proofs.lemmas.Iterator.Consumers.{YieldsList-turn, YieldsList-end}
use Rattle.std.proofs.lemmas.Result.{err_from_is_err_and}
use Rattle.commit_journal.specs.Versions.{number_of}
use Rattle.durable_catalogue.proofs.Takings.{none_taken, one_taken, unread, all_taken}
use Rattle.durable_catalogue.proofs.taking.take_each.Goals as goal

pub loop-frame-init : goal.loop-frame-init
loop-frame-init g c = (
  tt,
  tt,
  none_taken (g.T.EntryTaker.has c.args.taker.now c.args.taker.now) c.args.limits.bytes (number_of c.args.version) c.args.frames.items c.counter_of-counter.result c.counter_of-counter.ensures.version
      c.counter_of-counter.ensures.none c.requires.none,
)

pub loop-frame-preserved : goal.loop-frame-preserved
loop-frame-preserved g c =
    let has = g.T.EntryTaker.has c.args.taker.now in
    let frames = c.args.frames.items in
    let loop = c.loop-frame in
    let t = loop.invariant.2 in
    let frame = c.in-Some.frame in
    let gives = c.into_iter-frame-iterator.ensures.into_iter_gives in
    let yields = YieldsList-from_vec frames gives.0 (gives.1 ∙ c.args.frames.ok.0) in
    let turn = YieldsList-turn yields loop.yielded loop.frame-iterator loop.yielded_by c.next.result c.next.new.self frame c.in-Some.is c.next.ensures.steps in (
      tt,
      tt,
      one_taken (has loop.taker) c.args.limits.bytes (number_of c.args.version) frames (length loop.yielded) frame turn.0 turn.1 loop.counter loop.left t
          (has c.hand_on.new.taker) c.in_ok-items.items.items c.read_frame.new.counter c.hand_on.new.left (length (loop.yielded ++ frame ∷ [])) (length-append loop.yielded (frame ∷ []))
          (c.in_ok-items.ensures.read t.entries t.extent) c.read_frame.ensures.version (c.in-Ok.ensures.taken c.args.taker.now) c.in-Ok.ensures.left,
    )

pub returns-clause-taken : goal.returns-clause-taken
returns-clause-taken g c =
    let frames = c.args.frames.items in
    let loop = c.loop-frame in
    let gives = c.into_iter-frame-iterator.ensures.into_iter_gives in
    let yields = YieldsList-from_vec frames gives.0 (gives.1 ∙ c.args.frames.ok.0) in
    let whole = (YieldsList-end yields loop.yielded loop.frame-iterator loop.yielded_by c.next.result c.next.new.self c.in-None.is c.next.ensures.steps).1 in
    all_taken (g.T.EntryTaker.has c.args.taker.now loop.taker) (number_of c.args.version) frames c.args.limits (length loop.yielded) loop.counter loop.left
    c.last_run.result c.are_within.result (omega (arith, whole)) loop.invariant.2 c.last_run.ensures (λ entries left is. c.are_within.ensures entries left (c.count.ensures ∙ is))

pub returns-in_err-items-clause-fault : goal.returns-in_err-items-clause-fault
returns-in_err-items-clause-fault g c =
    let frames = c.args.frames.items in
    let loop = c.loop-frame in
    let t = loop.invariant.2 in
    let gives = c.into_iter-frame-iterator.ensures.into_iter_gives in
    let yields = YieldsList-from_vec frames gives.0 (gives.1 ∙ c.args.frames.ok.0) in
    let turn = YieldsList-turn yields loop.yielded loop.frame-iterator loop.yielded_by c.next.result c.next.new.self c.in-Some.frame c.in-Some.is c.next.ensures.steps in
    let p = err_from_is_err_and c.from_residual.result c.from_residual.ensures.1 in
    rw (p.1, p.2)
    (unread (g.T.EntryTaker.has c.args.taker.now loop.taker) c.args.limits.bytes (number_of c.args.version) frames (length loop.yielded) c.in-Some.frame turn.0 turn.1
    loop.counter loop.left t c.in_err-items.field-0.0 (c.in_err-items.ensures.fault t.entries t.extent))
