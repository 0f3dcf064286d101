-- An entry of the table as the characters that it writes.
use Rattle.std.specs.Prelude.{ℕ, List, [], ◌∷◌}
use Rattle.naco_form.specs.declared.table.Entry.{Entry}
use Rattle.naco_form.specs.declared.table.Entry.TheVariants.{Nothing, One, Two}

-- the characters that stand in a character's place
abbrev pub written : Entry → List ℕ
written Nothing = []
written (One c) = c ∷ []
written (Two c d) = c ∷ d ∷ []
