use Rattle.std.proofs.Common.{◌≡◌, ◌∙◌, true, [], ◌∷◌, Some, ap, subst}
use Rattle.outside.specs.Fault.{Rose}
use Rattle.outside.specs.Room.{SameBut}
use Rattle.split_command.specs.Names.{parts_name}
use Rattle.split_command.specs.Console.{parts_text}
use Rattle.split_command.specs.Outputs.{IsPutOrOld}
use Rattle.split_command.proofs.Brought.{parts_put, parts_stopped}
use Rattle.split_command.proofs.splitting.write_all.Goals as goal

pub returns-in-Ok-clause-writes : goal.returns-in-Ok-clause-writes
returns-in-Ok-clause-writes g c =
    let mid = g.R.Room.seen c.deal_files.new.room in
    let new = g.R.Room.seen c.write_text.new.room in
    let name_is : c.as_str-2.result.now ≡ parts_name c.args.plan.now.prefix = c.as_str-2.ensures ∙ c.in_ok-name.ensures ∙ ap parts_name c.as_str.ensures in
    let text_is : c.as_str-3.result.now ≡ parts_text c.args.plan.now.parts c.args.libraries.now c.args.plan.now.bounds =
    c.as_str-3.ensures.value ∙ c.in_ok-text.ensures ∙ ap (parts_text c.args.plan.now.parts c.args.libraries.now) c.as_slice.ensures in
    parts_put (g.R.Room.seen c.args.room.now) mid new c.args.plan.now c.args.libraries.now c.deal_files.ensures.apart
    (subst (λ n. SameBut mid new (n ∷ [])) name_is c.write_text.ensures.apart) c.in_ok-deal_files.ensures.whole
    (subst (λ n. mid.tells ≡ true → new.file n ≡ Some (parts_text c.args.plan.now.parts c.args.libraries.now c.args.plan.now.bounds)) name_is
    (subst (λ t. mid.tells ≡ true → new.file c.as_str-2.result.now ≡ Some t) text_is c.in-Ok.ensures.whole))

pub returns-clause-writes : goal.returns-clause-writes
returns-clause-writes g c =
    let mid = g.R.Room.seen c.deal_files.new.room in
    let new = g.R.Room.seen c.write_text.new.room in
    let name_is : c.as_str-2.result.now ≡ parts_name c.args.plan.now.prefix = c.as_str-2.ensures ∙ c.in_ok-name.ensures ∙ ap parts_name c.as_str.ensures in
    let text_is : c.as_str-3.result.now ≡ parts_text c.args.plan.now.parts c.args.libraries.now c.args.plan.now.bounds =
    c.as_str-3.ensures.value ∙ c.in_ok-text.ensures ∙ ap (parts_text c.args.plan.now.parts c.args.libraries.now) c.as_slice.ensures in
    parts_stopped (g.R.Room.seen c.args.room.now) mid new c.args.plan.now c.args.libraries.now c.deal_files.ensures.apart
    (subst (λ n. SameBut mid new (n ∷ [])) name_is c.write_text.ensures.apart) c.in_ok-deal_files.ensures.whole
    (subst (λ n. mid.tells ≡ true → IsPutOrOld mid new n (Some (parts_text c.args.plan.now.parts c.args.libraries.now c.args.plan.now.bounds))) name_is
    (subst (λ t. mid.tells ≡ true → IsPutOrOld mid new c.as_str-2.result.now (Some t)) text_is c.write_text.ensures.left))
    (subst (λ n. Rose (mid.out_faults n) (new.out_faults n)) name_is c.in-Err.ensures.cause.failed)
