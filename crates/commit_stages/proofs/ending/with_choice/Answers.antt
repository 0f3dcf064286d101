use Rattle.std.proofs.Common.{Option, subst}
use Rattle.commit_stages.specs.Settled.{IsChoiceSettledTo}
use Rattle.field_settling.specs.declared.held.Held.{Held}
use Rattle.catalogue_rules.specs.State.{linkable_authorities}
use Rattle.field_settling.specs.Held.{held_as}
use Rattle.commit_stages.proofs.DroppedField.{choice_left}
use Rattle.commit_stages.proofs.ending.with_choice.Goals as goal

pub returns-in-None-clause-settled : goal.returns-in-None-clause-settled
returns-in-None-clause-settled g c =
    choice_left (linkable_authorities c.args.store.now.state) c.args.class (held_as c.args.held)
    (subst (λ (o : Option Held). IsChoiceSettledTo (linkable_authorities c.args.store.now.state) c.args.class (held_as c.args.held) o) c.in-None.is c.in_ok-chosen.ensures.settled)
