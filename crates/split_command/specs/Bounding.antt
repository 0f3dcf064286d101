-- How many bounds are chosen of keys.
use Rattle.std.specs.Prelude.{◌≡◌, ◌⊎◌, ℕ, ◌+◌, List, [], length}
use Rattle.marc_types.specs.declared.key.Key.{Key}

-- bounds of so many parts that were chosen of these keys: one between each two parts, or none where there is no key
abbrev pub AreBoundsOf : List Key → ℕ → List Key → Type 0
AreBoundsOf keys parts bounds = (length bounds + 1 ≡ parts) ⊎ ((keys ≡ []) × (bounds ≡ []))
