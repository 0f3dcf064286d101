-- What a selection keeps. The rules are this project's own.
use Rattle.std.specs.Prelude.{Bool}
use Rattle.std.specs.Borrow.{Bor}
use Rattle.marc_types.specs.declared.key.Key.{Key}
use Rattle.selection.specs.Answers.{Answers}
use Rattle.selection.specs.declared.selection.Selection.{Selection}
use denote.Param.Always.{always_fn}
use denote.Param.Members.{Shared}

module _ {F : Type 0} (calls : Shared F (Bor Key × Unit {0}) Bool) (selection : Selection F) where
  -- the stored closure may be called on every key
  pub record IsCallable : Type 0 where
    pub callable : always_fn calls selection.keep

  -- the keys that are kept are those that the function says
  pub record Selects (kept : Key → Bool) : Type 0 where
    pub answers : Answers calls selection.keep kept

  -- a fact about the keys that are kept
  abbrev pub ForSelected : ((Key → Bool) → Type 0) → Type 0
  ForSelected P = (kept : Key → Bool) → Selects kept → P kept
