-- What clauses see of a window on a source's bytes.
use Rattle.std.specs.Prelude.{◌≡◌, ℕ, ◌+◌, ◌-◌, ◌^◌, ◌≤◌, ◌<◌, List, length, Option}

-- a window: the bytes that were read and not taken, and what its source still has
pub record View : Type 0 where
  -- taken bytes that the buffer still holds
  pub behind : List ℕ
  -- bytes that were read and not taken
  pub buffered : List ℕ
  -- the bytes that the source has left, where it tells them
  pub left : Option (List ℕ)
  -- at most so many bytes will still come from the source
  pub bound : ℕ
  -- the source's faults so far
  pub faults : ℕ
  -- how many bytes were taken
  pub offset : ℕ

-- the places of a window lie in its buffer, and no offset will pass a u64
pub record IsWindow (buffer : List ℕ) (from to offset bound : ℕ) : Type 0 where
  pub ordered : from ≤ to
  pub within : to ≤ length buffer
  pub size : length buffer ≡ 131072
  pub fits : offset + (to - from) + bound < 2 ^ 64
