-- What clauses see of a source and of a sink in memory.
use Rattle.std.specs.Prelude.{ℕ, List, length, min}
use Rattle.outside_mem.specs.Calls.{CallsState}

-- a source: the bytes left, the most that one read gives, and its calls
pub record SourceState : Type 0 where
  pub left : List ℕ
  pub chunk : ℕ
  pub calls : CallsState

-- a sink: the bytes written, and its calls
pub record SinkState : Type 0 where
  pub bytes : List ℕ
  pub calls : CallsState

-- how many bytes a read gives that doesn't fail: as many as the buffer, the chunk and the bytes left allow
abbrev pub read_length : SourceState → List ℕ → ℕ
read_length source buf = min (min (length buf) source.chunk) (length source.left)
