-- Counts that rise, along the calls of one function.
use Rattle.std.proofs.Common.{ℕ, ◌≤◌, List, [], ◌∷◌, arith}
use Rattle.outside.specs.Fault.{Rose, count_sum, count_total}

-- what rose still has risen later
pub rose_later : (a b c : ℕ) → Rose a b → b ≤ c → Rose a c
rose_later a b c rose later = omega arith

-- what rose since a time rose since any earlier one
pub rose_since : (a b c : ℕ) → a ≤ b → Rose b c → Rose a c
rose_since a b c later rose = omega arith

-- a sum grows with its parts
pub count_sum_more : (a b c d : ℕ) → a ≤ c → b ≤ d → count_sum a b ≤ count_sum c d
count_sum_more a b c d first second = omega arith

-- a sum rose where its first part did
pub rose_sum_first : (a b c d : ℕ) → Rose a c → b ≤ d → Rose (count_sum a b) (count_sum c d)
rose_sum_first a b c d rose later = omega arith

-- a sum rose where its second part did
pub rose_sum_second : (a b c d : ℕ) → a ≤ c → Rose b d → Rose (count_sum a b) (count_sum c d)
rose_sum_second a b c d later rose = omega arith

-- the count of a name rose where that of the object did, which started at 0 and was added to it
pub rose_closed : (a b faults : ℕ) → a ≤ b → Rose 0 faults → Rose a (count_sum b faults)
rose_closed a b faults later rose = omega arith

-- a total grows with its counts
pub count_total_more : (old new : List ℕ → ℕ) (names : List (List ℕ)) → ((n : List ℕ) → old n ≤ new n) → count_total old names ≤ count_total new names
count_total_more old new [] later = omega arith
count_total_more old new (n ∷ ns) later = omega (arith, later n, count_total_more old new ns later)

-- a total rose where the count of its first name did
pub rose_total_first : (old new : List ℕ → ℕ) (name : List ℕ) (names : List (List ℕ)) → ((n : List ℕ) → old n ≤ new n)
    → Rose (old name) (new name) → Rose (count_total old (name ∷ names)) (count_total new (name ∷ names))
rose_total_first old new name names later rose = rose_sum_first _ _ _ _ rose (count_total_more old new names later)

-- a total rose where that of the other names did
pub rose_total_rest : (old new : List ℕ → ℕ) (name : List ℕ) (names : List (List ℕ)) → ((n : List ℕ) → old n ≤ new n)
    → Rose (count_total old names) (count_total new names) → Rose (count_total old (name ∷ names)) (count_total new (name ∷ names))
rose_total_rest old new name names later rose = rose_sum_second _ _ _ _ (later name) rose
