-- The holdings of a shelf in the order of their targets.
use Rattle.std.specs.Prelude.{◌≡◌, ℕ, Bool, true, false, List}
use Rattle.std.specs.declared.cmp.Ordering.{Ordering}
use Rattle.std.specs.Ordering.{on, is_lt, is_le}
use Rattle.std.specs.Cmp.{IsTotalOrder, on_total}
use Rattle.std.specs.List.Sorted.{IsSorted, IsPartitionPoint}
use Rattle.marc_types.specs.Order.{key_cmp, key_cmp_total}
use Rattle.marc_types.specs.declared.key.Key.{Key}
use Rattle.holdings.specs.Shelves.{ShelfRow, target_of_row, holdings_of}

-- by the targets
unfoldable pub target_cmp : ShelfRow → ShelfRow → Ordering
target_cmp = on target_of_row key_cmp

pub target_cmp_total : IsTotalOrder target_cmp
unfolding target_cmp
target_cmp_total = on_total target_of_row key_cmp_total

-- the rows of a shelf in the order of their targets; those of each target in the order that they have on the shelf
pub record IsByTarget (shelf rows : List ShelfRow) : Type 0 where
  pub ordered : IsSorted target_cmp rows
  pub same : (key : Key) → holdings_of key rows ≡ holdings_of key shelf

-- how the target of a row compares with a key
abbrev pub compared : Key → ShelfRow → Ordering
compared key row = key_cmp (target_of_row row) key

-- the holding's target stands before the key
abbrev pub is_below_key : Key → ShelfRow → Bool
is_below_key key row = is_lt (compared key row)

-- it stands before it, or is the key
abbrev pub is_upto_key : Key → ShelfRow → Bool
is_upto_key key row = is_le (compared key row)

-- those that pass stand before the place, and the others behind it
abbrev pub IsPlace : {X : Type 0} → (X → Bool) → List X → ℕ → Type 0
IsPlace p xs n = IsPartitionPoint (λ x. p x ≡ true) (λ x. p x ≡ false) xs n
