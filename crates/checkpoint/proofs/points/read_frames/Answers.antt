use Rattle.std.proofs.Common.{[], ◌∷◌, ◌++◌, ◌∙◌, length, arith, length-append}
use Rattle.std.proofs.lemmas.Iterator.Adapters.{YieldsList-from_vec}
use Rattle.std.proofs.lemmas.Iterator.Consumers.{YieldsList-turn, YieldsList-end}
use Rattle.std.proofs.lemmas.Result.{err_from_is_err_and}
use Rattle.checkpoint.proofs.Framing.{none_read, one_frame, bad_frame, all_frames}
use Rattle.checkpoint.proofs.points.read_frames.Goals as goal

pub loop-frame-init : goal.loop-frame-init
loop-frame-init c = (tt, tt, none_read c.args.frames.items c.new-so_far.result c.new-so_far.ensures)

pub loop-frame-preserved : goal.loop-frame-preserved
loop-frame-preserved c =
    let frames = c.args.frames.items in
    let loop = c.loop-frame in
    let frame = c.in-Some.frame in
    let gives = c.into_iter-frame-iterator.ensures.into_iter_gives in
    let yields = YieldsList-from_vec frames gives.0 (gives.1 ∙ c.args.frames.ok.0) in
    let turn = YieldsList-turn yields loop.yielded loop.frame-iterator loop.yielded_by c.next.result c.next.new.self frame c.in-Some.is c.next.ensures.steps in (
      tt,
      tt,
      one_frame frames (length loop.yielded) frame turn.0 turn.1 loop.so_far loop.invariant.2 c.in_ok-part.part c.in_ok-part.ensures.part c.in_ok-known.known
          c.in_ok-known.ensures (length (loop.yielded ++ frame ∷ [])) (length-append loop.yielded (frame ∷ [])),
    )

pub returns-clause-point : goal.returns-clause-point
returns-clause-point c =
    let frames = c.args.frames.items in
    let loop = c.loop-frame in
    let gives = c.into_iter-frame-iterator.ensures.into_iter_gives in
    let yields = YieldsList-from_vec frames gives.0 (gives.1 ∙ c.args.frames.ok.0) in
    let whole = (YieldsList-end yields loop.yielded loop.frame-iterator loop.yielded_by c.next.result c.next.new.self c.in-None.is c.next.ensures.steps).1 in
    all_frames frames (length loop.yielded) loop.so_far (omega (arith, whole)) loop.invariant.2

pub returns-in_err-part-clause-unread : goal.returns-in_err-part-clause-unread
returns-in_err-part-clause-unread c =
    let frames = c.args.frames.items in
    let loop = c.loop-frame in
    let gives = c.into_iter-frame-iterator.ensures.into_iter_gives in
    let yields = YieldsList-from_vec frames gives.0 (gives.1 ∙ c.args.frames.ok.0) in
    let turn = YieldsList-turn yields loop.yielded loop.frame-iterator loop.yielded_by c.next.result c.next.new.self c.in-Some.frame c.in-Some.is c.next.ensures.steps in
    let p = err_from_is_err_and c.from_residual.result c.from_residual.ensures.1 in
    rw (p.1, p.2)
    (bad_frame frames (length loop.yielded) c.in-Some.frame turn.0 turn.1 loop.so_far loop.invariant.2 _ c.in_err-part.ensures.unread)
