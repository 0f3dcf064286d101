-- Lists by number, of which blanks at the end don't count: what a number has is told by a total look-up.
use Rattle.std.specs.Prelude.{ℕ, zero, suc, Bool, List, [], ◌∷◌, if◌then◌else◌}

-- an element in front, left out where it is blank and nothing follows
abbrev pub prepend : {X : Type 0} → (X → Bool) → X → List X → List X
prepend blank x [] = if blank x then [] else x ∷ []
prepend blank x (y ∷ ys) = x ∷ y ∷ ys

-- the list without the blanks at its end
abbrev pub trimmed : {X : Type 0} → (X → Bool) → List X → List X
trimmed blank [] = []
trimmed blank (x ∷ xs) = prepend blank x (trimmed blank xs)

-- the list with another element at a place, which may lie past the end
abbrev pub with_at : {X : Type 0} → X → ℕ → X → List X → List X
with_at blank zero x [] = x ∷ []
with_at blank zero x (y ∷ ys) = x ∷ ys
with_at blank (suc n) x [] = blank ∷ with_at blank n x []
with_at blank (suc n) x (y ∷ ys) = y ∷ with_at blank n x ys
