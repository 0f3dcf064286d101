use Rattle.std.proofs.Common.{◌∙◌, ap, sym}
use Rattle.std.proofs.lemmas.Result.{IfOk-weaker}
use Rattle.catalogue_rules.specs.Receipt.{standing_by}
use Rattle.catalogue_rules.specs.State.{kept_field}
use Rattle.catalogue_tables.specs.Stands.{stands_as}
use Rattle.catalogue_tables.proofs.Standings.{forms_choose, numbered_stands}
use Rattle.catalogue_tables.proofs.tables.CatalogueTables.unlinked_standing.Goals as goal

pub returns-in-Some : goal.returns-in-Some
returns-in-Some c = λ s tells.
    numbered_stands c.args.self.now.forms c.args.keys.now c.args.self.now.index c.args.class c.args.base.now.kind (kept_field c.args.field.now c.args.tie.now) s tells
    c.in-Some._taker (sym c.in-Some.is ∙ c.in_ok-_taker.ensures)

pub returns-in-None : goal.returns-in-None
returns-in-None c =
    IfOk-weaker c.standing_by_forms.result _ _
    (λ standing told. λ s tells.
    told s tells
    ∙ ap (λ choice. stands_as (standing_by choice))
    (sym (forms_choose c.args.self.now.forms c.args.keys.now c.args.self.now.index c.args.class c.args.base.now.kind (kept_field c.args.field.now c.args.tie.now) s tells
    (sym c.in-None.is ∙ c.in_ok-_taker.ensures))))
    c.standing_by_forms.ensures
