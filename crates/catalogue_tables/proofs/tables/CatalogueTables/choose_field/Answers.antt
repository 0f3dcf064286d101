use Rattle.std.proofs.Common.{◌∙◌, ap, sym}
use Rattle.std.specs.Option.{option_copied}
use Rattle.entry_record.specs.Authority.{heading_kind}
use Rattle.catalogue_rules.specs.State.{kept_field, linkable_authorities}
use Rattle.catalogue_tables.proofs.Chosens.{field_chosen, form_made}
use Rattle.catalogue_tables.proofs.tables.CatalogueTables.choose_field.Goals as goal

pub choose-requires : goal.choose-requires
choose-requires c =
    form_made c.args.field.now (heading_kind c.args.class c.args.field.now) c.in-Some.form.now (sym (ap option_copied c.in-Some.is) ∙ c.requires)

pub returns : goal.returns
returns c = λ s tells.
    field_chosen c.args.keys.now (linkable_authorities s) c.args.class (kept_field c.args.field.now c.args.tie.now) c.in-Some.form.now c.in_ok-chosen.chosen
    (sym (ap option_copied c.in-Some.is) ∙ c.requires) (c.in_ok-chosen.ensures s tells)
