-- What inputs had left that were closed.
use Rattle.std.specs.Prelude.{ℕ, List, [], ◌∷◌, Option}
use Rattle.outside.specs.declared.closed.Given.{Given}
use Rattle.outside.specs.declared.closed.Given.TheVariants.{None, One}

-- the newest first
abbrev pub lefts_of : {S : Type 0} → (S → Option (List ℕ)) → Given S → List (Option (List ℕ))
lefts_of left None = []
lefts_of left (One last older) = left last.value ∷ older.value
