-- What bytes begin with. It serves the reading of payloads, and is no rule of the format.
use Rattle.std.specs.Prelude.{◌≡◌, List, ℕ, ◌++◌}
use Rattle.checkpoint.specs.declared.fault.PartFault.{PartFault}
use Rattle.checkpoint.specs.declared.fault.PartFault.TheVariants.{BadPart, NoMemory}

-- bytes are what is written of a value that can stand there, and others behind it
pub record BeginWith {X : Type 0} (written : X → List ℕ) (Can : X → Type 0) (bytes : List ℕ) (x : X) (rest : List ℕ) : Type 0 where
  pub split : written x ++ rest ≡ bytes
  pub can : Can x

-- the bytes begin with no such value
abbrev pub BeginWithNone : {X : Type 0} → (X → List ℕ) → (X → Type 0) → List ℕ → Type 0
BeginWithNone {X} written Can bytes = (x : X) (rest : List ℕ) → BeginWith written Can bytes x rest → ⊥

-- bytes begin with no such value; want of memory says nothing
abbrev pub IsNoFront : {X : Type 0} → (X → List ℕ) → (X → Type 0) → List ℕ → PartFault → Type 0
IsNoFront {X} written Can bytes BadPart = BeginWithNone written Can bytes
IsNoFront {X} written Can bytes NoMemory = Unit {0}
