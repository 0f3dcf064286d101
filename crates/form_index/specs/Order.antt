-- Numbers of keys in the order of the keys that they stand for.
use Rattle.std.specs.Prelude.{◌≡◌, ℕ, ◌<◌, Bool, ◌==◌, List, [], ◌∷◌, length, slice_index_or, if◌then◌else◌}
use Rattle.std.specs.List.{AllByRecursion, list_any}
use Rattle.std.specs.List.Sorted.{IsPartitionPoint, IsStrictlySortedBy}
use Rattle.std.specs.Ordering.{is_lt}
use Rattle.std.specs.declared.cmp.Ordering.TheVariants.{Less, Greater}
use Rattle.std.specs.declared.cmp.Ordering.{Ordering}
use Rattle.marc_types.specs.Order.{key_cmp}
use Rattle.marc_types.specs.declared.key.Key.{Key}

-- a key without code and number, for numbers that none has
abbrev pub no_key : Key
no_key = record { code = []; number = [] }

-- the key that a number stands for
unfoldable pub key_at : List Key → ℕ → Key
key_at keys number = slice_index_or keys number no_key

-- numbers in the order of their keys
abbrev pub number_cmp : List Key → ℕ → ℕ → Ordering
number_cmp keys m n = key_cmp (key_at keys m) (key_at keys n)

-- whether a number stands in a list
abbrev pub has : ℕ → List ℕ → Bool
has n numbers = list_any (λ m. m == n) numbers

-- the numbers stand for keys, and these ascend
pub record Ascends (keys : List Key) (numbers : List ℕ) : Type 0 where
  pub known : AllByRecursion (λ n. n < length keys) numbers
  pub rising : IsStrictlySortedBy (number_cmp keys) numbers

-- the place in a list where a number belongs: below it the keys are less, and from it on they are greater
abbrev pub IsGap : List Key → List ℕ → ℕ → ℕ → Type 0
IsGap keys numbers n place = IsPartitionPoint (λ m. number_cmp keys m n ≡ Less) (λ m. number_cmp keys m n ≡ Greater) numbers place

-- the numbers with one more, put before the first whose key is greater
abbrev pub inserted : List Key → ℕ → List ℕ → List ℕ
inserted keys n [] = n ∷ []
inserted keys n (m ∷ ms) = if is_lt (number_cmp keys n m) then n ∷ m ∷ ms else m ∷ inserted keys n ms

-- the numbers without the first that is n
abbrev pub without : ℕ → List ℕ → List ℕ
without n [] = []
without n (m ∷ ms) = if m == n then ms else m ∷ without n ms
