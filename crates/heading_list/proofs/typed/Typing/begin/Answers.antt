use Rattle.std.proofs.Common.{◌≡◌, ◌++◌, [], ◌∷◌, false, refl}
use Rattle.heading_list.specs.declared.typed.Typing.{Typing}
use Rattle.heading_list.proofs.Letters.{begun, subfield}
use Rattle.heading_list.proofs.typed.Typing.begin.Goals as goal

pub returns : goal.returns
returns c =
    let old = c.args.self.now in
    let new : Typing = record { done = c.push.new.self; code = c.args.code; text = c.replace-text.new.dest; held = false } in
    let done : new.done.items ≡ old.done.items ++ subfield old.code old.text ∷ [] =
    rw (c.in_ok-push.ensures.items, c.replace-text.ensures.value) refl in
    let text : new.text ≡ [] = rw (c.replace-text.ensures.after, c.new.ensures) refl in
    begun old new c.args.code c.requires.held c.requires.code done refl text refl
