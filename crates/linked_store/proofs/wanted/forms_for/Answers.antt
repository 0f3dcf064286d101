use Rattle.std.proofs.Common.{◌∙◌, rules, subst, sym}
use Rattle.catalogue_rules.specs.State.{kept_field}
use Rattle.linked_store.specs.Wanted.{AsksFor}
use Rattle.linked_store.specs.declared.wanted.Sought.{Sought}
use Rattle.linked_store.proofs.Wanting.{asks_divided, asks_undivided}
use Rattle.linked_store.proofs.wanted.forms_for.Goals as goal

pub returns-then-is_divided : goal.returns-then-is_divided
returns-then-is_divided c =
    subst (λ (s : Sought). AsksFor c.args.class c.args.base.kind (kept_field c.args.field.now c.args.tie.now) s) (sym c.one_or_both.ensures)
    (asks_divided c.args.class c.args.base.kind (kept_field c.args.field.now c.args.tie.now) c.in_ok-whole.whole c.args.base (search rules) c.requires.base
    (sym c.is_divided.ensures ∙ c.if-is_divided.true))

pub returns : goal.returns
returns c =
    asks_undivided c.args.class c.args.base.kind (kept_field c.args.field.now c.args.tie.now) c.args.base c.requires.base (sym c.is_divided.ensures ∙ c.if-is_divided.false)
    c.requires.whole
