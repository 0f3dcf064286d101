use Rattle.std.proofs.Common.{rules, ◌≡◌, ◌∙◌, ◌==◌, ◌∷◌, true, false, refl, sym, ap}
use Rattle.std.proofs.lemmas.Result.{on_ok_weaker}
use Rattle.heading_list.specs.Typing.{typed_with}
use Rattle.heading_list.specs.declared.typed.Typing.{Typing}
use Rattle.heading_list.proofs.Letters.{held_back, typed_more}
use Rattle.heading_list.proofs.typed.Typing.add.Goals as goal

pub returns-then-c-eq36 : goal.returns-then-c-eq36
returns-then-c-eq36 c cs =
    let old = c.args.self.now in
    let new : Typing = record { done = old.done; code = old.code; text = old.text; held = true } in
    let is : c.args.c ≡ 36 = search rules in
    held_back old new c.requires refl refl refl refl cs ∙ ap (λ d. typed_with old (d ∷ cs)) (sym is)

pub returns : goal.returns
returns c =
    let old = c.args.self.now in
    let new : Typing = record { done = old.done; code = old.code; text = c.push.new.self; held = old.held } in
    let other : (c.args.c == 36) ≡ false = search rules in
    on_ok_weaker c.push.result (λ text cs. typed_more old new c.args.c c.requires other refl refl text c.requires cs) c.push.ensures.text
