use Rattle.std.proofs.Common.{◌∙◌, ap}
use Rattle.linked_store.proofs.Sounding.{rolled_back, sound_marked, view_marked}
use Rattle.linked_store.proofs.store.LinkedStore.roll_back.Goals as goal

pub invariant_of-self : goal.invariant_of-self
invariant_of-self c = sound_marked c.self.inside.transaction c.go_back.new.transaction c.self.inside.marked c.go_back.ensures c.self.invariant

pub returns : goal.returns
returns c = view_marked c.self.inside.transaction c.go_back.new.transaction c.self.inside.marked c.go_back.ensures c.self.invariant ∙ ap rolled_back c.self.view_is
