use Rattle.std.proofs.Common.{◌∙◌, false, sym}
use Rattle.catalogue_rules.specs.State.{kept_field, linkable_authorities}
use Rattle.catalogue_tables.proofs.Standings.{base_meant}
use Rattle.catalogue_tables.proofs.tables.CatalogueTables.meant_by_base.Goals as goal

pub returns-then-asks_base : goal.returns-then-asks_base
returns-then-asks_base c = λ keys s tells is.
    base_meant keys (linkable_authorities s) c.args.class c.args.base.now.kind (kept_field c.args.field.now c.args.tie.now) c.args.base.now c.meant_by.result.now
    (sym c.asks_base.ensures ∙ c.if-asks_base.true) is (c.meant_by.ensures false keys s tells)
