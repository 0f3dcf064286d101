-- The one history of a lock: the object's items, each with the number of the pass whose turn added it.
use Rattle.std.specs.Prelude.{ℕ, Bool, true, false, ◌==◌, List, [], ◌∷◌, map, length, nat_lt, Option, Some, None, if◌then◌else◌}
use Rattle.catalogue_lock.specs.declared.view.Numbered.{Numbered}

-- two numbers are one, or there is none on either side
abbrev pub is_same_number : Option ℕ → Option ℕ → Bool
is_same_number None None = true
is_same_number None (Some k) = false
is_same_number (Some j) None = false
is_same_number (Some j) (Some k) = j == k

-- the longer of two lists, and the second where they have one length
abbrev pub longer : {X : Type 0} → List X → List X → List X
longer xs ys = if nat_lt (length ys) (length xs) then xs else ys

module _ {I : Type 0} where
  -- the items alone
  abbrev pub items : List (Numbered I) → List I
  items history = map (λ e. e.item) history

  -- the items with one number, or with none
  abbrev pub numbered : Option ℕ → List I → List (Numbered I)
  numbered by added = map (λ x. record { by = by; item = x }) added

  -- the items that have this number, or that have none, in their order
  abbrev pub items_by : Option ℕ → List (Numbered I) → List I
  items_by by [] = []
  items_by by (e ∷ es) = if is_same_number by e.by then e.item ∷ items_by by es else items_by by es
