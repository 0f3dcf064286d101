use Rattle.std.proofs.Common.{◌∙◌, sym}
use Rattle.catalogue_rules.specs.State.{kept_field}
use Rattle.linked_store.proofs.Wanting.{base_by, wants_heading}
use Rattle.linked_store.proofs.wanted.wants_of.Goals as goal

pub forms_for-requires-clause-base : goal.forms_for-requires-clause-base
forms_for-requires-clause-base c = base_by c.args.class c.args.field.now c.in-Some.base (sym c.in-Some.is ∙ c.in_ok-base.ensures)

pub returns : goal.returns
returns c =
    wants_heading c.args.class (kept_field c.args.field.now c.args.tie.now) c.in-Some.base c.in_ok-sought.sought c.in_ok-keys.keys.items
    (sym c.is_some.ensures ∙ c.if-is_some.false) (sym c.in-Some.is ∙ c.in_ok-base.ensures) c.in_ok-sought.ensures c.in_ok-keys.ensures
