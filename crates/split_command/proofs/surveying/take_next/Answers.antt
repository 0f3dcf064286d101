use Rattle.std.proofs.Common.{refl}
use Rattle.split_command.specs.Surveying.{TakenAsEntry, TakenAsRefused}
use Rattle.split_command.proofs.surveying.take_next.Goals as goal

pub returns-in_ok-accept-in-Entry-clause-takes : goal.returns-in_ok-accept-in-Entry-clause-takes
returns-in_ok-accept-in-Entry-clause-takes g c =
    TakenAsEntry c.in-Entry.prepared c.in-Entry.ensures.gives c.in_ok-accept-in-Entry.ensures.keys c.accept.ensures.text c.accept.ensures.refused refl

pub returns-in_ok-refuse-in-Refused-clause-takes : goal.returns-in_ok-refuse-in-Refused-clause-takes
returns-in_ok-refuse-in-Refused-clause-takes g c =
    TakenAsRefused c.in-Refused.item c.in-Refused.ensures.gives c.refuse.ensures.keys c.in_ok-refuse-in-Refused.ensures.text c.in_ok-refuse-in-Refused.ensures.refused refl
