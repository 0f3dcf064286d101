use Rattle.std.proofs.Common.{◌≡◌, take}
use Rattle.std.specs.Prelude.{◌||◌}
use Rattle.std.specs.List.{list_any}
use Rattle.marc_types.specs.declared.key.Key.{Key}
use Rattle.marc_types.specs.Order.{same_key}
use Rattle.catalogue_tables.specs.Lent.{keys_at}
use Rattle.catalogue_tables.specs.Sharing.{shown_keys}
use Rattle.catalogue_tables.proofs.sharing.add_keys.Given as goal

abbrev pub invariant-loop-number : goal.invariant-loop-number
invariant-loop-number l =
    (k : Key) → list_any (same_key k) (shown_keys l.found.keys)
    ≡ (list_any (same_key k) (shown_keys l.fn.found.keys) || list_any (same_key k) (keys_at l.keys (take l.number-index l.numbers)))
