-- Things and their numbers: a thing's number is its place in a list that only grows.
use Rattle.std.specs.Prelude.{◌≡◌, ℕ, ◌≤◌, Bool, true, false, List, [], ◌∷◌, ◌++◌, length, if◌then◌else◌}
use Rattle.std.specs.List.{list_any, position_or_len}

module _ {T : Type 0} (same : T → T → Bool) where
  -- whether a thing has a number
  abbrev pub is_known : List T → T → Bool
  is_known things thing = list_any (same thing) things

  -- the number of a thing: its place; a thing that has none would get the next number, which is this one too
  abbrev pub number_of : List T → T → ℕ
  number_of things thing = position_or_len (same thing) things

  -- the things once this one has a number too
  abbrev pub with_thing : List T → T → List T
  with_thing things thing = if is_known things thing then things else things ++ thing ∷ []

  -- the thing has a number, and it is this one
  pub record IsNumberOf (things : List T) (thing : T) (number : ℕ) : Type 0 where
    pub known : is_known things thing ≡ true
    pub is : number ≡ number_of things thing

  -- each number stands for what it stood for, and a new one stands for nothing that had one
  pub record Keeps (old new : List T) : Type 0 where
    pub known : (thing : T) → is_known old thing ≡ true → is_known new thing ≡ true
    pub same_number : (thing : T) → is_known old thing ≡ true → number_of new thing ≡ number_of old thing
    pub longer : length old ≤ length new
    pub new_number : (thing : T) → is_known old thing ≡ false → length old ≤ number_of new thing
