-- The numbers of keys that may be none.
use Rattle.std.specs.Prelude.{ℕ, List, [], Option, None, Some, Box}

-- the numbers of a row's keys; none where it has no list
abbrev pub numbers_in : {A : Type 0} → Option (Box (List ℕ) A) → List ℕ
numbers_in None = []
numbers_in (Some numbers) = numbers.value
