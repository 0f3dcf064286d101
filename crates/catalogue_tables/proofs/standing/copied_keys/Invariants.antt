use Rattle.std.proofs.Common.{◌≡◌, take}
use Rattle.catalogue_tables.specs.Lent.{keys_at}
use Rattle.catalogue_tables.proofs.standing.copied_keys.Given as goal

abbrev pub invariant-loop-number : goal.invariant-loop-number
invariant-loop-number l = l.found.items ≡ keys_at l.keys (take l.number-index l.numbers)
