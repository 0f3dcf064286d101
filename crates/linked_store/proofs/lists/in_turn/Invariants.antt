use Rattle.std.proofs.Common.{◌≡◌, take}
use Rattle.linked_store.proofs.lists.in_turn.Given as goal

abbrev pub invariant-loop-number : goal.invariant-loop-number
invariant-loop-number l = l.seats.items ≡ take l.number l.found
