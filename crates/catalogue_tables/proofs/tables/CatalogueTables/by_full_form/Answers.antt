use Rattle.std.proofs.Common.{ap, ◌∙◌, sym}
use Rattle.std.specs.Option.{option_copied}
use Rattle.heading_fields.specs.Tables.{is_subdividable}
use Rattle.catalogue_rules.specs.State.{linkable_authorities}
use Rattle.catalogue_tables.proofs.Chosens.{by_full}
use Rattle.catalogue_tables.proofs.tables.CatalogueTables.by_full_form.Goals as goal

pub returns-then-takes_subdivisions : goal.returns-then-takes_subdivisions
returns-then-takes_subdivisions c = λ keys s tells base divided.
    by_full keys (linkable_authorities s) c.args.class c.args.base.now.kind c.args.field.now c.full_or_base.result.now c.args.base.now (option_copied c.args.divided)
    c.by_form.result (ap (is_subdividable c.args.class) (sym c.tag.ensures) ∙ sym c.takes_subdivisions.ensures ∙ c.if-takes_subdivisions.true) base divided c.full_or_base.ensures (c.by_form.ensures keys s tells)
