-- What was handed on of a log.
use Rattle.std.specs.Prelude.{◌≡◌, ℕ, ◌<◌, List, Some}
use Rattle.outside.specs.Disk.{DiskView}
use Rattle.commit_journal.specs.declared.frame.Frame.{Frame}
use Rattle.commit_journal.specs.Log.{walk_of, closed_at, behind}
use Rattle.commit_journal.specs.Journal.{IsFound}
use Rattle.commit_journal.specs.Reading.{IsReadFrom}

-- from the first gate of a disk's log the frames that were taken lead to a closed gate at that place
pub record AreAllTaken (Has : List Frame → Type 0) (place : ℕ) (disk : DiskView) : Type 0 where
  pub frames : List Frame
  pub has : Has frames
  pub walked : (log : List ℕ) → disk.content ≡ Some log → walk_of log ≡ behind frames (closed_at place)
  pub within : place < disk.len

-- the frames of a disk's log of that version were taken, up to a closed gate at that place
pub record IsTakenFrom (Has : List Frame → Type 0) (place version : ℕ) (disk : DiskView) : Type 0 where
  pub frames : List Frame
  pub has : Has frames
  pub read : IsReadFrom frames place version disk

-- A log of that version was found on a disk, and its frames were taken, up to a closed gate at that place.
pub record IsFoundFrom (Has : List Frame → Type 0) (place version : ℕ) (old new : DiskView) : Type 0 where
  pub frames : List Frame
  pub has : Has frames
  pub found : IsFound frames place version old new
