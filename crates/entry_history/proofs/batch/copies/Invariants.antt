use Rattle.std.proofs.Common.{◌≡◌, take}
use Rattle.entry_history.proofs.batch.copies.Given as goal

abbrev pub invariant-loop-item : goal.invariant-loop-item
invariant-loop-item l = l.twins.items ≡ take l.item-index l.items
