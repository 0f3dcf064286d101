-- A list of all things that pass a test.
use Rattle.std.specs.Prelude.{◌≡◌, ◌≤◌, ℕ, Bool, true, List}
use Rattle.std.specs.List.{list_any, IsDistinct}

-- the list has just the things that pass, each once, in any order
pub record ListsEach {P : Type 0} (same : P → P → Bool) (test : P → Bool) (things : List P) : Type 0 where
  pub each : (thing : P) → list_any (same thing) things ≡ test thing
  pub once : IsDistinct same things

-- the list has each thing that is counted once, in any order
pub record HasEach {P : Type 0} (same : P → P → Bool) (times : P → ℕ) (things : List P) : Type 0 where
  pub each : (thing : P) → 1 ≤ times thing → list_any (same thing) things ≡ true
  pub once : IsDistinct same things
