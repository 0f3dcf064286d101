use Rattle.std.proofs.Common.{subst}
use Rattle.catalogue_core.specs.Catalogues.{IsDue}
use Rattle.plain_commands.specs.Loading.{TakenAsEntry, TakenAsRefused, lacks_room}
use Rattle.plain_commands.proofs.loading.take_next.Goals as goal

pub returns-in-Ok-clause-takes : goal.returns-in-Ok-clause-takes
returns-in-Ok-clause-takes g c = TakenAsEntry c.in-Entry.item c.in-Entry.ensures.gives c.in-Ok.ensures.accepted

pub returns-in-Err-Full-clause-takes : goal.returns-in-Err-Full-clause-takes
returns-in-Err-Full-clause-takes g c = record {
  next = c.in-Entry.item;
  gives = c.in-Entry.ensures.gives;
  full = subst (IsDue (lacks_room c.args.loaded.now.limits c.args.loaded.now.accepted c.in-Entry.item)) c.in-Err-Full.field-0-is c.in-Err-Full.ensures.fault;
}

pub returns-in-Ok-refuse-clause-takes : goal.returns-in-Ok-refuse-clause-takes
returns-in-Ok-refuse-clause-takes g c = TakenAsRefused c.in-Refused.item c.in-Refused.ensures.gives c.in-Ok-refuse.ensures.refused
