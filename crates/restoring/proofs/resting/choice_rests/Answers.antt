use Rattle.std.proofs.Common.{◌≡◌, subst}
use Rattle.std.specs.Option.{option_map}
use Rattle.catalogue_rules.specs.State.{kept_field, linkable_authorities}
use Rattle.catalogue_tables.specs.Choosing.{chosen_for, heading_choice}
use Rattle.linked_store.specs.Linked.{Linked}
use Rattle.restoring.proofs.Rests.{choice_decides}
use Rattle.restoring.proofs.resting.choice_rests.Goals as goal

pub returns : goal.returns
returns c =
    choice_decides (linkable_authorities c.args.store.now.state) c.args.seat.class (kept_field c.args.field.now c.args.tie.now) c.requires.unlinked
    c.args.store.now.keys.authorities c.in_ok-chosen.chosen c.rests_by.result c.requires.whole
    (subst (λ (x : Linked). c.in_ok-chosen.chosen ≡ option_map (chosen_for x.keys.authorities)
    (heading_choice (linkable_authorities x.state) c.args.seat.class (kept_field c.args.field.now c.args.tie.now))) c.as_linked.ensures c.in_ok-chosen.ensures)
    c.rests_by.ensures
