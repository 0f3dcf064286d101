-- What clauses see of a sink or a disk that fails for want of room alone.
use Rattle.std.specs.Prelude.{ℕ, List}

-- its bytes and its faults
pub record SureState : Type 0 where
  pub bytes : List ℕ
  pub faults : ℕ

-- a source has no faults
abbrev pub source_faults : List ℕ → ℕ
source_faults left = 0
