use Rattle.linked_store.specs.declared.transaction.Transaction.{Transaction}
use Rattle.linked_store.proofs.Keyed.{sound_none}
use Rattle.linked_store.proofs.store.LinkedStore.new.Goals as goal

pub invariant_of-result : goal.invariant_of-result
invariant_of-result c =
    let made : Transaction = record { store = c.new.result; tables = c.new-2.result; log = c.new-3.result } in
    sound_none made c.new.ensures c.new-2.ensures.links c.new-2.ensures.waits c.new-3.ensures.items c.new-2.ensures.index c.new-2.ensures.ordered
