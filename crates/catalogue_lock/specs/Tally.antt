-- What a tally answers.
use Rattle.std.specs.Prelude.{◌≡◌, ℕ, ◌<◌, ◌≤◌, List, [], ◌∷◌, length, Option, Some, None}

-- A call is added, and told how many stood before it, exactly where there was room; else it is refused, and nothing is added.
pub record Tallies (room : ℕ) (before : List ℕ) (call : ℕ) (reply : Option ℕ) (added : List ℕ) : Type 0 where
  pub taken : length before < room → (reply ≡ Some (length before)) × (added ≡ call ∷ [])
  pub refused : room ≤ length before → (reply ≡ None) × (added ≡ [])

-- the answer is how many numbers there are
abbrev pub Counts : ℕ → List ℕ → Unit {0} → ℕ → Type 0
Counts room history question answer = answer ≡ length history
