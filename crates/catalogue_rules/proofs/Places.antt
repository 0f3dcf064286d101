-- A key that is below all of a list's, which stand in order.
use Rattle.std.proofs.Common.{◌≡◌, List, [], ◌∷◌, None, refl}
use Rattle.std.specs.List.{AllByRecursion}
use Rattle.std.specs.List.Sorted.{IsStrictlySortedBy}
use Rattle.std.specs.Map.{keys_of, lookup}
use Rattle.std.specs.declared.cmp.Ordering.TheVariants.{Less}
use Rattle.marc_types.specs.Order.{key_cmp, key_cmp_total, same_key}
use Rattle.marc_types.specs.declared.key.Key.{Key}

-- the key is below all of these
abbrev pub IsBelow : Key → List Key → Type 0
IsBelow key keys = AllByRecursion (λ other. key_cmp key other ≡ Less) keys

abbrev pub IsInOrder : {X : Type 0} → List (Key × X) → Type 0
IsInOrder rows = IsStrictlySortedBy key_cmp (keys_of rows)

pub still_below : (key other : Key) → key_cmp key other ≡ Less → (keys : List Key) → IsBelow other keys → IsBelow key keys
still_below key other less [] below = tt
still_below key other less (k ∷ keys) below = (key_cmp_total.trans key other k less below.0, still_below key other less keys below.1)

pub lookup_below : {X : Type 0} (key : Key) (rows : List (Key × X)) → IsBelow key (keys_of rows) → lookup (same_key key) rows ≡ None
lookup_below key [] below = refl
lookup_below key (row ∷ rows) below = rw below.0 (lookup_below key rows below.1)
