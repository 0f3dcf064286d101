use Rattle.std.proofs.Common.{rules, ◌≡◌, true, false, refl}
use Rattle.heading_list.specs.declared.typed.Typing.{Typing}
use Rattle.heading_list.proofs.Letters.{let_go_before, let_go_last}
use Rattle.heading_list.proofs.typed.Typing.let_go.Goals as goal

pub returns-in_ok-push-clause-text : goal.returns-in_ok-push-clause-text
returns-in_ok-push-clause-text c =
    let old = c.args.self.now in
    let new : Typing = record { done = old.done; code = old.code; text = c.push.new.self; held = false } in
    let held : old.held ≡ true = search rules in
    let_go_before old new held refl refl c.in_ok-push.ensures.text refl

pub returns-in_ok-push-clause-end : goal.returns-in_ok-push-clause-end
returns-in_ok-push-clause-end c =
    let old = c.args.self.now in
    let new : Typing = record { done = old.done; code = old.code; text = c.push.new.self; held = false } in
    let held : old.held ≡ true = search rules in
    let_go_last old new held refl refl c.in_ok-push.ensures.text refl
