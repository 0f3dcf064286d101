use Rattle.std.proofs.Common.{◌∙◌, sym}
use Rattle.std.proofs.lemmas.Result.{IfOk-weaker}
use Rattle.entry_record.specs.Authority.{heading_kind}
use Rattle.catalogue_rules.specs.State.{kept_field, linkable_authorities}
use Rattle.catalogue_tables.proofs.Chosens.{form_made}
use Rattle.catalogue_tables.proofs.Standings.{heading_stands, headless_stands, linked_stands}
use Rattle.catalogue_tables.proofs.tables.CatalogueTables.standing.Goals as goal

pub returns-in-Some : goal.returns-in-Some
returns-in-Some c = λ s tells.
    linked_stands (linkable_authorities s) c.args.class (kept_field c.args.field.now c.args.tie.now) c.in-Some._key c.in-Some.is

pub returns-in_default-2 : goal.returns-in_default-2
returns-in_default-2 c = λ s tells.
    headless_stands (linkable_authorities s) c.args.class (kept_field c.args.field.now c.args.tie.now) c.in_default.is (sym c.in_default-2.is ∙ c.in_ok-base.ensures)

pub unlinked_standing-requires : goal.unlinked_standing-requires
unlinked_standing-requires c =
    form_made c.args.field.now (heading_kind c.args.class c.args.field.now) c.in-Some-2.base (sym c.in-Some-2.is ∙ c.in_ok-base.ensures)

pub returns : goal.returns
returns c =
    IfOk-weaker c.unlinked_standing.result _ _
    (λ standing told. λ s tells.
    told s tells
    ∙ heading_stands (linkable_authorities s) c.args.class (kept_field c.args.field.now c.args.tie.now) c.in-Some-2.base c.in_default.is
    (sym c.in-Some-2.is ∙ c.in_ok-base.ensures))
    c.unlinked_standing.ensures
