-- The first place at which a test fails.
use Rattle.std.specs.Prelude.{◌≡◌, ℕ, ◌<◌, Bool, true, false}

-- the test holds at each place below the number
abbrev pub AllGood : (ℕ → Bool) → ℕ → Type 0
AllGood is_good count = (k : ℕ) → k < count → is_good k ≡ true

-- the place is the first one below the number at which the test fails
pub record IsFirstBad (is_good : ℕ → Bool) (count place : ℕ) : Type 0 where
  pub within : place < count
  pub bad : is_good place ≡ false
  pub before : AllGood is_good place
