-- What clauses see of a disk: its content, and what a crash may leave of it.
use Rattle.std.specs.Prelude.{◌≡◌, ◌⊎◌, ◌↔◌, ℕ, ◌+◌, ◌^◌, ◌≤◌, min, max, List, ◌++◌, length, take, drop, Option, Some, is_some, Bool, true}
use Rattle.std.specs.Option.{option_or}

-- a disk now. An image is what a crash may leave; a moment is a number that doesn't fall.
pub record DiskView : Type 1 where
  -- how many bytes it has
  pub len : ℕ
  -- its bytes, where it tells them
  pub content : Option (List ℕ)
  -- what a crash now may leave
  pub image : List ℕ → Type 0
  -- now
  pub moment : ℕ
  -- what a crash at any moment since that one may have left, during a call or between two
  pub left : ℕ → List ℕ → Type 0
  -- the moment of the first sync since that one that succeeded
  pub synced : ℕ → Option ℕ
  -- whether it tells its moments
  pub dated : Bool
  -- its faults so far
  pub faults : ℕ

-- the most bytes that a disk has
abbrev pub longest_disk : ℕ
longest_disk = 2 ^ 40

-- the most bytes that one write takes
abbrev pub longest_write : ℕ
longest_write = 2 ^ 32

-- the content with these bytes at this place, over what is there and past the end
abbrev pub patch : ℕ → List ℕ → List ℕ → List ℕ
patch at bytes old = take at old ++ bytes ++ drop (at + length bytes) old

-- an image after a write of n bytes that may have happened in any part: any bytes in the range and past the old end, the same elsewhere
pub record Torn (at n : ℕ) (old new : List ℕ) : Type 0 where
  pub before : take at new ≡ take at old
  pub behind : drop (at + n) new ≡ drop (at + n) old
  pub no_shorter : length old ≤ length new
  pub no_longer : length new ≤ max (length old) (at + n)

-- an image after a cut to n bytes that may have happened in any part: any bytes in the range cut off, the same before it
pub record TornCut (n : ℕ) (old new : List ℕ) : Type 0 where
  pub front : take n new ≡ take n old
  pub no_shorter : min n (length old) ≤ length new
  pub no_longer : length new ≤ length old

-- each image now is an image from before, after this step
abbrev pub Follows : (List ℕ → List ℕ → Type 0) → DiskView → DiskView → Type 0
Follows step old new = (c : List ℕ) → new.image c → (d : List ℕ) × old.image d × step d c

-- where it tells its content, the content now is the one from before, after this step
abbrev pub ContentFollows : (List ℕ → List ℕ → Type 0) → DiskView → DiskView → Type 0
ContentFollows step old new = (b c : List ℕ) → old.content ≡ Some b → new.content ≡ Some c → step b c

-- no image is new
abbrev pub NoNewImage : DiskView → DiskView → Type 0
NoNewImage old new = (c : List ℕ) → new.image c → old.image c

-- where it tells its content, that is the only image
abbrev pub OnlyContent : DiskView → Type 0
OnlyContent disk = (b c : List ℕ) → disk.content ≡ Some b → disk.image c → c ≡ b

-- Time goes on, and whether the disk tells stays. What a crash since a moment may leave is what it might have left before, or may leave now.
pub record Elapses (old new : DiskView) : Type 0 where
  pub later : old.moment ≤ new.moment
  pub nothing_else : (t : ℕ) (c : List ℕ) → t ≤ old.moment → new.left t c → old.left t c ⊎ new.image c
  pub keeps : (t : ℕ) (c : List ℕ) → t ≤ old.moment → old.left t c → new.left t c
  pub dated : new.dated ≡ old.dated
  pub tells : is_some new.content ≡ is_some old.content

-- no sync has succeeded
abbrev pub SameSyncs : DiskView → DiskView → Type 0
SameSyncs old new = (t : ℕ) → t ≤ old.moment → new.synced t ≡ old.synced t

-- a sync has succeeded, which is the first since each moment that had none
abbrev pub SyncsNow : DiskView → DiskView → Type 0
SyncsNow old new = old.dated ≡ true → (t : ℕ) → t ≤ old.moment → new.synced t ≡ option_or (old.synced t) (Some new.moment)

-- nothing but the count of faults changes
pub record Unchanged (old new : DiskView) : Type 0 where
  pub len : new.len ≡ old.len
  pub content : new.content ≡ old.content
  pub images : (c : List ℕ) → new.image c ↔ old.image c
  pub moment : new.moment ≡ old.moment
  pub lefts : (t : ℕ) (c : List ℕ) → new.left t c ↔ old.left t c
  pub syncs : (t : ℕ) → new.synced t ≡ old.synced t
  pub dated : new.dated ≡ old.dated

-- nothing changes at all
pub record SameDisk (old new : DiskView) : Type 0 where
  pub unchanged : Unchanged old new
  pub faults : new.faults ≡ old.faults

-- Each image now, and at each moment since old, has P. A crash since an earlier moment leaves what it might have left then, or what has P.
pub record LeavesOnly (old new : DiskView) (P : List ℕ → Type 0) : Type 0 where
  pub now : (c : List ℕ) → new.image c → P c
  pub each : (c : List ℕ) → new.left old.moment c → P c
  pub since : (t : ℕ) (c : List ℕ) → t ≤ old.moment → new.left t c → old.left t c ⊎ P c
