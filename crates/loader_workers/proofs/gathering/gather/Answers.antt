use Rattle.loader_workers.proofs.Taking.{gathering_none, gathering_entry, gathering_refused, next_is_like}
use Rattle.loader_workers.proofs.gathering.gather.Goals as goal

pub items-init : goal.items-init
items-init g c = gathering_none _ _ _ c.requires.going c.new-batch.ensures

pub push-requires-clause-like : goal.push-requires-clause-like
push-requires-clause-like g c = next_is_like _ _ _ _ _ _ c.items.invariant.taken c.in-Entry.ensures.gives

pub items-preserved-in-Ok : goal.items-preserved-in-Ok
items-preserved-in-Ok g c =
    gathering_entry _ _ _ _ _ _ _ c.in-Entry.item c.items.invariant c.in-Entry.ensures.same c.in-Entry.ensures.gives c.in-Ok.ensures.pushed

pub items-preserved : goal.items-preserved
items-preserved g c =
    gathering_refused _ _ _ _ _ _ _ c.in-Refused.item c.items.invariant c.in-Refused.ensures.same c.in-Refused.ensures.gives c.in-Ok-push.ensures.items
