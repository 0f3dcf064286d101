use Rattle.std.proofs.Common.{◌≡◌, ◌∙◌, sym, ap, subst, take}
use Rattle.std.specs.declared.cmp.Ordering.TheVariants.{Less, Greater}
use Rattle.std.specs.List.Sorted.{IsPartitionPoint}
use Rattle.form_index.specs.Order.{number_cmp}
use Rattle.form_index.specs.Listed.{withdrawn}
use Rattle.form_index.proofs.Moved.{goes_out, goes_out_ascends, withdrawn_none}
use Rattle.form_index.proofs.key_list.KeyList.withdraw.Goals as goal

pub returns-in-Ok-clause-withdrawn : goal.returns-in-Ok-clause-withdrawn
returns-in-Ok-clause-withdrawn c =
    goes_out c.self.inside.numbers.items c.self.inside.live c.self.invariant c.args.number c.args.keys.now c.args.self.now c.self.view_is c.live.result.now c.live.ensures
    c.in-Ok.from c.move_number.new.numbers.items c.in-Ok.ensures.bound c.in-Ok.ensures.found c.move_number.ensures c.requires.ascends

pub returns-in-Ok-clause-ascends : goal.returns-in-Ok-clause-ascends
returns-in-Ok-clause-ascends c =
    goes_out_ascends c.self.inside.numbers.items c.self.inside.live c.self.invariant c.args.number c.args.keys.now c.args.self.now c.self.view_is c.live.result.now c.live.ensures
    c.in-Ok.from c.move_number.new.numbers.items c.in-Ok.ensures.bound c.in-Ok.ensures.found c.move_number.ensures c.requires.ascends

pub returns-in_default-clause-withdrawn : goal.returns-in_default-clause-withdrawn
returns-in_default-clause-withdrawn c =
    let live : c.live.result.now ≡ take c.self.inside.live c.self.inside.numbers.items = c.live.ensures ∙ ap (λ l. l.live) (sym c.self.view_is) in
    let part = subst (λ l. IsPartitionPoint (λ m. number_cmp c.args.keys.now m c.args.number ≡ Less) (λ m. number_cmp c.args.keys.now m c.args.number ≡ Greater) l c.in_default.field-0) live c.in_default.ensures.absent in
    subst (λ l. l ≡ withdrawn c.args.number l) c.self.view_is
    (withdrawn_none c.self.inside.numbers.items c.self.inside.live c.self.invariant c.args.number c.args.keys.now c.in_default.field-0 part)
