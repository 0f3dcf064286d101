use Rattle.std.proofs.Common.{◌∙◌, ap}
use Rattle.catalogue_rules.specs.Settle.{arrival_of, step}
use Rattle.linked_store.specs.Linked.{Linked}
use Rattle.catalogue_core.proofs.Engines.{engine_stepped}
use Rattle.catalogue_core.proofs.engine.Engine.step.Goals as goal

pub invariant_of-self-2 : goal.invariant_of-self-2
invariant_of-self-2 g c =
    engine_stepped c.self.inside.store.state c.commit_entry.new.store.state c.self.inside.store.before c.commit_entry.new.store.before c.args.item c.self.invariant c.entry-entry.ensures.admitted
    (c.in_ok-changes.ensures.state ∙ ap (λ (x : Linked). step x.state (arrival_of c.args.item)) c.as_linked_mut.ensures.value)
    (c.commit_entry.ensures.before ∙ ap (λ (x : Linked). x.before) c.as_linked_mut.ensures.value)
