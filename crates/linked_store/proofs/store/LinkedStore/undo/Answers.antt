use Rattle.std.proofs.Common.{◌∙◌, ap}
use Rattle.linked_store.proofs.Sounding.{sound_start, undone, view_start}
use Rattle.linked_store.proofs.store.LinkedStore.undo.Goals as goal

pub invariant_of-self : goal.invariant_of-self
invariant_of-self c = sound_start c.self.inside.transaction c.go_back.new.transaction c.self.inside.marked c.go_back.ensures c.self.invariant

pub returns : goal.returns
returns c = view_start c.self.inside.transaction c.go_back.new.transaction c.self.inside.marked c.go_back.ensures c.self.invariant ∙ ap undone c.self.view_is
