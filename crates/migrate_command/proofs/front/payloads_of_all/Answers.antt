use Rattle.std.proofs.Common.{[], ◌∷◌, ◌++◌, ◌∙◌, length, arith, length-append}
use Rattle.std.proofs.lemmas.Iterator.Adapters.{YieldsList-from_vec}
use Rattle.std.proofs.lemmas.Iterator.Consumers.{YieldsList-turn, YieldsList-end}
use Rattle.migrate_command.proofs.Payloads.{one_payload, all_payloads}
use Rattle.migrate_command.proofs.front.payloads_of_all.Goals as goal

pub loop-entry-init : goal.loop-entry-init
loop-entry-init c = (tt, tt, rw c.new-payloads.ensures.items tt)

pub loop-entry-preserved : goal.loop-entry-preserved
loop-entry-preserved c =
    let entries = c.args.entries.items in
    let loop = c.loop-entry in
    let entry = c.in-Some.entry in
    let gives = c.into_iter-entry-iterator.ensures.into_iter_gives in
    let yields = YieldsList-from_vec entries gives.0 (gives.1 ∙ c.args.entries.ok.0) in
    let turn = YieldsList-turn yields loop.yielded loop.entry-iterator loop.yielded_by c.next.result c.next.new.self entry c.in-Some.is c.next.ensures.steps in (
      tt,
      tt,
      rw c.in_ok-push.ensures.items
          (one_payload entries (length loop.yielded) entry turn.0 turn.1 loop.payloads.items c.into_payload.result loop.invariant.2 c.into_payload.ensures
          (length (loop.yielded ++ entry ∷ [])) (length-append loop.yielded (entry ∷ []))),
    )

pub returns : goal.returns
returns c =
    let entries = c.args.entries.items in
    let loop = c.loop-entry in
    let gives = c.into_iter-entry-iterator.ensures.into_iter_gives in
    let yields = YieldsList-from_vec entries gives.0 (gives.1 ∙ c.args.entries.ok.0) in
    let whole = (YieldsList-end yields loop.yielded loop.entry-iterator loop.yielded_by c.next.result c.next.new.self c.in-None.is c.next.ensures.steps).1 in
    all_payloads entries (length loop.yielded) loop.payloads.items (omega (arith, whole)) loop.invariant.2
