use Rattle.std.proofs.Common.{◌∙◌, ap, sym, true}
use Rattle.std.specs.Option.{option_copied}
use Rattle.heading_fields.specs.Tables.{is_subdividable}
use Rattle.catalogue_rules.specs.State.{linkable_authorities}
use Rattle.catalogue_tables.proofs.Standings.{full_meant}
use Rattle.catalogue_tables.proofs.tables.CatalogueTables.meant_in_full.Goals as goal

pub returns-then-takes_subdivisions : goal.returns-then-takes_subdivisions
returns-then-takes_subdivisions c = λ keys s tells tie is made.
    full_meant keys (linkable_authorities s) c.args.class c.args.base.now.kind c.args.field.now tie c.full_or_base.result.now c.args.base.now (option_copied c.args.divided)
    c.meant_by.result.now
    (ap (is_subdividable c.args.class) (sym c.tag.ensures) ∙ sym c.takes_subdivisions.ensures ∙ c.if-takes_subdivisions.true) is made c.full_or_base.ensures
    (c.meant_by.ensures true keys s tells)
