use Rattle.std.proofs.Common.{◌≡◌, take}
use Rattle.catalogue_tables.specs.Lent.{keys_at}
use Rattle.catalogue_tables.specs.Sharing.{shown_keys}
use Rattle.catalogue_tables.proofs.sharing.lent_keys.Given as goal

abbrev pub invariant-loop-number : goal.invariant-loop-number
invariant-loop-number l = shown_keys l.found.items ≡ keys_at l.keys (take l.number-index l.numbers)
