use Rattle.std.proofs.Common.{◌≡◌, ◌-◌, length, map}
use Rattle.numbered_store.specs.Kept.{shown_row}
use Rattle.numbered_store.proofs.Listed.{rows_from}
use Rattle.numbered_store.proofs.listing.in_order.Given as goal

abbrev pub invariant-loop-done : goal.invariant-loop-done
invariant-loop-done l = map shown_row l.rows.entries ≡ rows_from l.fn.keys l.fn.slots.items (length l.fn.keys - l.done)
