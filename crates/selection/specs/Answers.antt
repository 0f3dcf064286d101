-- What a closure on keys answers. The rules are this project's own.
use Rattle.std.specs.Prelude.{◌≡◌, Bool}
use Rattle.std.specs.Borrow.{Bor}
use Rattle.std.specs.Fn.{FnReturnsAt}
use Rattle.marc_types.specs.declared.key.Key.{Key}
use denote.Param.Members.{Shared}

-- on every key the closure answers what the function says, and nothing else
pub record Answers {F : Type 0} (calls : Shared F (Bor Key × Unit {0}) Bool) (closure : F) (kept : Key → Bool) : Type 0 where
  pub only : (key : Key) (answer : Bool) → FnReturnsAt calls closure key answer → answer ≡ kept key
