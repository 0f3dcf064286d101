-- What clauses see of the files that a room holds.
use Rattle.std.specs.Prelude.{◌≡◌, ◌≢◌, List, ℕ, Bool, true, is_some, Result, OnOk}
use Rattle.std.specs.BTreeMap.{get_by_text}
use Rattle.outside_real.specs.declared.held.HeldFiles.{HeldFiles}

-- whether there is a file that was opened under that name, and so is held
abbrev pub has_file : HeldFiles → List ℕ → Bool
has_file held name = is_some (get_by_text held.files name)

-- an opening that succeeds holds the file of that name, and none lets go of another name's
pub record Holds {T E : Type 0} (old new : HeldFiles) (name : List ℕ) (result : Result T E) : Type 0 where
  pub this : OnOk result (has_file new name ≡ true)
  pub others : (n : List ℕ) → n ≢ name → has_file new n ≡ has_file old n
