use Rattle.linked_store.proofs.Sounding.{sound_kept}
use Rattle.linked_store.proofs.store.LinkedStore.keep.Goals as goal

pub keep_all-requires-clause-order : goal.keep_all-requires-clause-order
keep_all-requires-clause-order c = record { keys = c.self.inside.transaction.store.keys.authorities; ordered = c.self.invariant.now.told.ordered }

pub invariant_of-self : goal.invariant_of-self
invariant_of-self c = sound_kept c.self.inside.transaction c.keep_all.new.transaction c.self.inside.marked c.keep_all.ensures c.self.invariant
