use Rattle.std.proofs.Common.{List, [], ◌∷◌, ◌++◌, ◌∙◌, length, sym, subst, arith, append_assoc}
use Rattle.std.proofs.lemmas.List.{append-nil, take_all}
use Rattle.std.proofs.lemmas.Iterator.Adapters.{YieldsList-from_vec}
use Rattle.std.proofs.lemmas.Iterator.Consumers.{YieldsList-so_far, YieldsList-end}
use Rattle.marc_types.specs.declared.entry.Entry.{Entry}
use Rattle.durable_catalogue.specs.Taking.{HasLeft}
use Rattle.durable_catalogue.proofs.Takings.{map_same}
use Rattle.durable_catalogue.proofs.taking.hand_on.Goals as goal

pub loop-item-init : goal.loop-item-init
loop-item-init g c = (
  tt,
  tt,
  λ begun before has. subst (g.T.EntryTaker.has begun c.args.taker.now) (sym (append-nil before)) has,
  λ bytes before fits. subst (λ es. HasLeft bytes es c.args.left.now) (sym (append-nil before)) fits,
)

pub loop-item-preserved : goal.loop-item-preserved
loop-item-preserved g c =
    let loop = c.loop-item in (
      tt,
      tt,
      λ begun before has.
          subst (g.T.EntryTaker.has begun c.take.new.self) (append_assoc before loop.yielded (c.in-Some.item ∷ []))
          (c.in_ok-take.ensures.taken begun (before ++ loop.yielded) (loop.invariant.2 begun before has)),
      λ bytes before fits.
          subst (λ es. HasLeft bytes es c.left_behind.result) (append_assoc before loop.yielded (c.in-Some.item ∷ []))
          (c.left_behind.ensures bytes (before ++ loop.yielded) (loop.invariant.3 bytes before fits)),
    )

pub returns-clause-taken : goal.returns-clause-taken
returns-clause-taken g c begun before has =
    let items = c.args.items.items in
    let loop = c.loop-item in
    let gives = c.into_iter-item-iterator.ensures.into_iter_gives in
    let yields = YieldsList-from_vec items gives.0 (gives.1 ∙ c.args.items.ok.0) in
    let whole = (YieldsList-end yields loop.yielded loop.item-iterator loop.yielded_by c.next.result c.next.new.self c.in-None.is c.next.ensures.steps).1 in
    let front = sym (map_same loop.yielded) ∙ YieldsList-so_far yields loop.yielded loop.item-iterator loop.yielded_by in
    subst (λ (l : List Entry). g.T.EntryTaker.has begun loop.taker (before ++ l)) (front ∙ take_all (length loop.yielded) items (omega (arith, whole))) (loop.invariant.2 begun before has)

pub returns-clause-left : goal.returns-clause-left
returns-clause-left g c bytes before fits =
    let items = c.args.items.items in
    let loop = c.loop-item in
    let gives = c.into_iter-item-iterator.ensures.into_iter_gives in
    let yields = YieldsList-from_vec items gives.0 (gives.1 ∙ c.args.items.ok.0) in
    let whole = (YieldsList-end yields loop.yielded loop.item-iterator loop.yielded_by c.next.result c.next.new.self c.in-None.is c.next.ensures.steps).1 in
    let front = sym (map_same loop.yielded) ∙ YieldsList-so_far yields loop.yielded loop.item-iterator loop.yielded_by in
    subst (λ (l : List Entry). HasLeft bytes (before ++ l) loop.left) (front ∙ take_all (length loop.yielded) items (omega (arith, whole))) (loop.invariant.3 bytes before fits)
