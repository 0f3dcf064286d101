use Rattle.catalogue_rules.specs.Settle.{arrival_of}
use Rattle.linked_store.specs.Linked.{IsUnchanged}
use Rattle.linked_store.specs.Placing.{fields_brought}
use Rattle.linked_store.proofs.Brought.{AreRowsBelow}
use Rattle.linked_store.proofs.store.LinkedStore.rows_for.Given as goal

abbrev pub invariant-loop-place : goal.invariant-loop-place
invariant-loop-place l =
    IsUnchanged l.fn.self l.self × AreRowsBelow l.item.class l.self.keys.authorities (fields_brought (arrival_of l.item)) l.place l.rows.items
