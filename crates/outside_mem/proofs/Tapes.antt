-- The changes of a tape, the latest first.
use Rattle.std.proofs.Common.{◌≡◌, List, [], ◌∷◌, ◌++◌, length, reverse}
use Rattle.std.proofs.lemmas.List.{reverse-append, length-reverse}
use Rattle.outside_mem.specs.declared.change.Change.{Change}

pub latest : (changes : List Change) (change : Change) → reverse (changes ++ change ∷ []) ≡ change ∷ reverse changes
latest changes change = reverse-append changes (change ∷ [])

pub as_many : (changes : List Change) → length (reverse changes) ≡ length changes
as_many changes = length-reverse changes
