-- Rows that stand in pages, as one list by number.
use Rattle.std.specs.Prelude.{ℕ, zero, suc, ◌*◌, List, [], ◌∷◌, length}
use Rattle.numbering.specs.Pages.{row_or}
use Rattle.numbering.specs.declared.pages.Pages.{Pages}

-- what a function says of the first numbers, so many
abbrev pub firsts : {X : Type 0} → (ℕ → X) → ℕ → List X
firsts f zero = []
firsts f (suc n) = f zero ∷ firsts (λ k. f (suc k)) n

-- the rows of all pages, by number; one that isn't there is blank
unfoldable pub flat : {X : Type 0} → X → Pages X → List X
flat blank pages = firsts (row_or blank pages) (length pages.pages.items * 1024)
