use Rattle.std.proofs.Common.{◌≡◌, ◌∙◌, ◌+◌, [], ◌∷◌, ◌++◌, take, sym, ap, subst, arith, append_assoc}
use Rattle.std.proofs.lemmas.List.{take_more}
use Rattle.sound_frames.specs.Looking.{HasLeft}
use Rattle.sound_frames.proofs.found.take_all.Goals as goal

pub loop-item-preserved : goal.loop-item-preserved
loop-item-preserved c =
    let items = c.args.items.now in
    let i = c.loop-item.item-index in
    let item = c.item-item.result in
    let loop = c.loop-item in
    let next : take (i + 1) items ≡ take i items ++ item ∷ [] = take_more items i item (omega arith) ∙ ap (λ x. take i items ++ x ∷ []) (sym c.item-item.is) in
    let pushed : c.push.new.self.items ≡ loop.entries.items ++ item ∷ [] = c.in_ok-push.ensures.items ∙ ap (λ x. loop.entries.items ++ x ∷ []) c.in_ok-of.ensures in
    record {
      entries = pushed ∙ ap (λ es. es ++ item ∷ []) loop.invariant.entries ∙ append_assoc c.args.entries.now.items (take i items) (item ∷ [])
          ∙ ap (λ es. c.args.entries.now.items ++ es) (sym next);
      left = λ bytes has.
          subst (λ es. HasLeft bytes es c.left_behind.result) (sym pushed) (c.left_behind.ensures bytes loop.entries.items (loop.invariant.left bytes has));
    }
