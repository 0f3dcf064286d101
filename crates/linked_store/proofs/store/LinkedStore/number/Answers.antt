use Rattle.std.proofs.Common.{refl, subst}
use Rattle.linked_store.specs.Linked.{IsUnchanged, Linked}
use Rattle.linked_store.specs.Sound.{linked_view}
use Rattle.linked_store.specs.declared.transaction.Transaction.{Transaction}
use Rattle.linked_store.proofs.Keyed.{transaction_grown, number_grows, view_unchanged}
use Rattle.linked_store.proofs.Sounding.{sound_grown}
use Rattle.linked_store.proofs.store.LinkedStore.number.Goals as goal

pub invariant_of-self : goal.invariant_of-self
invariant_of-self c =
    let now : Transaction = record { store = c.number.new.self; tables = c.self.inside.transaction.tables; log = c.self.inside.transaction.log } in
    sound_grown c.self.inside.transaction now c.self.inside.marked
    (transaction_grown c.self.inside.transaction now c.self.invariant.distinct
    (number_grows c.args.class c.args.key.now c.self.inside.transaction.store c.number.new.self c.number.result c.number.ensures.ok c.number.ensures.err) refl refl)
    c.self.invariant

pub returns-clause-unchanged : goal.returns-clause-unchanged
returns-clause-unchanged c =
    let now : Transaction = record { store = c.number.new.self; tables = c.self.inside.transaction.tables; log = c.self.inside.transaction.log } in
    subst (λ (x : Linked). IsUnchanged x (linked_view now c.self.inside.marked)) c.self.view_is
    (view_unchanged c.self.inside.transaction now c.self.inside.marked
    (transaction_grown c.self.inside.transaction now c.self.invariant.distinct
    (number_grows c.args.class c.args.key.now c.self.inside.transaction.store c.number.new.self c.number.result c.number.ensures.ok c.number.ensures.err) refl refl)
    c.self.invariant)
