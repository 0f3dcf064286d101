-- What a read in memory moves.
use Rattle.std.proofs.Common.{◌≡◌, ℕ, ◌≤◌, List, [], ◌∷◌, ◌++◌, length, take, drop, refl, arith}
use Rattle.std.proofs.lemmas.Grind.{common_steps}

-- the bytes that were moved, with those that are left, are those that were left
pub moved_front : (left moved buf : List ℕ) (n : ℕ) → n ≤ length left → moved ≡ take n left → left ≡ take n (moved ++ drop n buf) ++ drop n left
moved_front left moved buf n within front = grind (arith, common_steps)

-- a list of no length
pub no_length : (xs : List ℕ) → length xs ≡ 0 → xs ≡ []
no_length [] none = refl
no_length (x ∷ xs) none = absurd (omega (arith, none))
