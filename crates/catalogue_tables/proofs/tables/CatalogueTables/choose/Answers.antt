use Rattle.std.proofs.Common.{◌∙◌, sym}
use Rattle.catalogue_rules.specs.State.{kept_field}
use Rattle.catalogue_tables.proofs.Chosens.{chosen_by_forms, chosen_by_number}
use Rattle.catalogue_tables.proofs.tables.CatalogueTables.choose.Goals as goal

pub returns-in-Some : goal.returns-in-Some
returns-in-Some c = λ s tells.
    c.link.ensures
    ∙ chosen_by_number c.args.self.now.forms c.args.keys.now c.args.self.now.index c.args.class c.args.base.now.kind (kept_field c.args.field.now c.args.tie.now) s tells
    c.in-Some.taker (sym c.in-Some.is ∙ c.in_ok-taker.ensures)

pub returns-in_ok-chosen-in-None : goal.returns-in_ok-chosen-in-None
returns-in_ok-chosen-in-None c = λ s tells.
    chosen_by_forms c.args.self.now.forms c.args.keys.now c.args.self.now.index c.args.class c.args.base.now.kind (kept_field c.args.field.now c.args.tie.now) s tells
    c.in_ok-chosen-in-None.chosen (sym c.in-None.is ∙ c.in_ok-taker.ensures) (c.in_ok-chosen-in-None.ensures c.args.keys.now s tells)
