use Rattle.std.proofs.Common.{◌∙◌, sym}
use Rattle.catalogue_rules.specs.State.{kept_field, linkable_authorities}
use Rattle.catalogue_tables.proofs.Asked.{heading_chosen}
use Rattle.catalogue_tables.proofs.Chosens.{chosen_by_forms, chosen_by_number}
use Rattle.catalogue_tables.proofs.tables.CatalogueTables.choose_waiting.Goals as goal

pub returns-in-Some : goal.returns-in-Some
returns-in-Some c = λ s tells.
    let h = kept_field c.args.field.now c.args.tie.now in
    let kind = c.requires.0 in
    heading_chosen c.args.keys.now (linkable_authorities s) c.args.class h kind c.link.result c.requires.1
    (c.link.ensures
    ∙ chosen_by_number c.args.self.now.forms c.args.keys.now c.args.self.now.index c.args.class kind h s tells c.in-Some.taker
    (sym c.in-Some.is ∙ c.in_ok-taker.ensures kind c.requires.1 c.requires.2.named))

pub returns-in-None : goal.returns-in-None
returns-in-None c = λ s tells.
    let h = kept_field c.args.field.now c.args.tie.now in
    let kind = c.requires.0 in
    heading_chosen c.args.keys.now (linkable_authorities s) c.args.class h kind c.choose_by_numbers.result c.requires.1
    (chosen_by_forms c.args.self.now.forms c.args.keys.now c.args.self.now.index c.args.class kind h s tells c.choose_by_numbers.result
    (sym c.in-None.is ∙ c.in_ok-taker.ensures kind c.requires.1 c.requires.2.named) (c.choose_by_numbers.ensures c.args.keys.now s tells kind c.requires.2))
