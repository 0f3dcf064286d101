use Rattle.std.proofs.Common.{◌∙◌, ap}
use Rattle.std.specs.Prelude.{not}
use Rattle.std.proofs.lemmas.Result.{IfOk-weaker}
use Rattle.catalogue_rules.specs.State.{kept_field}
use Rattle.catalogue_tables.specs.Choosing.{taker_by_number}
use Rattle.catalogue_tables.proofs.Asked.{nobody_named, none_there, other_kind, tag_kind, the_kind}
use Rattle.catalogue_tables.proofs.tables.CatalogueTables.taker_named.Goals as goal

pub returns-then-is_none : goal.returns-then-is_none
returns-then-is_none c = λ kind heading names.
    nobody_named c.args.self.now.forms c.args.keys.now c.args.self.now.index c.args.class kind (kept_field c.args.field.now c.args.tie.now)
    (none_there c.args.tie.now.awaits (c.is_none.ensures ∙ ap not c.if-is_none.true)) (names (c.is_empty.ensures.0 c.if-is_empty.true))

pub returns-in_default : goal.returns-in_default
returns-in_default c = λ kind heading names.
    other_kind kind c.heading_kind.result c.in_default.is (c.heading_kind.ensures ∙ tag_kind c.args.class c.args.field.now kind heading) _

pub returns : goal.returns
returns c =
    IfOk-weaker c.taker_by_number.result _ _
    (λ taker is kind heading names.
    is
    ∙ ap (λ k. taker_by_number c.args.self.now.forms c.args.keys.now c.args.self.now.index c.args.class k (kept_field c.args.field.now c.args.tie.now))
    (the_kind c.in-Some.kind kind c.heading_kind.result c.in-Some.is (c.heading_kind.ensures ∙ tag_kind c.args.class c.args.field.now kind heading)))
    c.taker_by_number.ensures
