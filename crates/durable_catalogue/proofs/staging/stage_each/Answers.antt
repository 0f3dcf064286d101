use Rattle.std.proofs.Common.{◌∷◌, ◌++◌, ◌∙◌, [], sym, subst}
use Rattle.std.proofs.lemmas.Iterator.Adapters.{YieldsList-from_vec}
use Rattle.std.proofs.lemmas.Iterator.Consumers.{YieldsList-so_far, YieldsList-turn}
use Rattle.durable_catalogue.proofs.Stages.{AreStaged, has_room, none_staged, one_staged}
use Rattle.durable_catalogue.proofs.Takings.{map_same}
use Rattle.durable_catalogue.proofs.staging.stage_each.Goals as goal

pub loop-item-init : goal.loop-item-init
loop-item-init g c =
    let core = c.args.core.now in
    (tt, tt, subst (λ receipts. AreStaged core core receipts []) (sym c.in_ok-receipts.ensures.items) (none_staged core c.requires.unstaged))

pub stage-requires : goal.stage-requires
stage-requires g c =
    let loop = c.loop-item in
    let items = c.args.items.items in
    let gives = c.into_iter-item-iterator.ensures.into_iter_gives in
    let yields = YieldsList-from_vec items gives.0 (gives.1 ∙ c.args.items.ok.0) in
    let turn = YieldsList-turn yields loop.yielded loop.item-iterator loop.yielded_by c.next.result c.next.new.self c.in-Some.item c.in-Some.is c.next.ensures.steps in
    let front = sym (map_same loop.yielded) ∙ YieldsList-so_far yields loop.yielded loop.item-iterator loop.yielded_by in
    record {
      room = has_room c.args.core.now loop.core loop.receipts.items loop.yielded items c.in-Some.item c.requires.unstaged loop.invariant.2 c.requires.within front turn.0 turn.1;
    }

pub loop-item-preserved : goal.loop-item-preserved
loop-item-preserved g c =
    let loop = c.loop-item in
    let was = c.args.core.now in (
      tt,
      tt,
      subst (λ receipts. AreStaged was c.stage.new.self receipts (loop.yielded ++ c.in-Some.item ∷ [])) (sym c.in_ok-push.ensures.items)
          (one_staged was loop.core c.stage.new.self loop.receipts.items loop.yielded c.in-Some.item c.in_ok-receipt.receipt c.requires.unstaged loop.invariant.2 c.in_ok-receipt.ensures.receipt c.in_ok-receipt.ensures.staged),
    )
