-- Logs of checkpoints, as the commands take them, and why they don't. The rules are this project's own.
use Rattle.std.specs.Prelude.{◌≡◌, ◌≢◌, ◌⊎◌, ℕ, ◌≤◌, List, Option, Ok, Err}
use Rattle.outside.specs.Disk.{DiskView, OnlyContent, SameDisk}
use Rattle.commit_journal.specs.declared.frame.Frame.{Frame}
use Rattle.commit_journal.specs.Log.{frames_of, version_of}
use Rattle.commit_journal.specs.Journal.{Opens, Unwritten}
use Rattle.durable_catalogue.specs.Refused.{LeavesDiskAlone}
use Rattle.durable_catalogue.specs.declared.fault.OpenFault.{OpenFault}
use Rattle.durable_catalogue.specs.declared.fault.OpenFault.TheVariants.{DeviceFault, NotAJournal, OldVersion, Full, NoMemory}
use Rattle.checkpoint.specs.Points.{IsPointOf, IsBadFrame}
use Rattle.checkpoint.specs.declared.point.Point.{Point}
use Rattle.restoring.specs.Writing.{HasLast}

-- the log has checkpoints and nothing else, this is its last whole one, and it is of version 2
pub record IsPointLog (last : Option Point) (log : List ℕ) : Type 0 where
  pub has : HasLast last log
  pub newest : version_of log ≡ 2

-- nothing that is a log stands at that place, or it is the gate of a payload that is no part of a checkpoint
pub data IsNoPointLog (log : List ℕ) (place : ℕ) : Type 0 where
  NoGate : frames_of log ≡ Err place → IsNoPointLog log place
  NoPart : (frames : List Frame) → frames_of log ≡ Ok frames → IsBadFrame frames place → IsNoPointLog log place

-- Why a log is not taken as one of checkpoints. One of version 1 has nothing but checkpoints: a payload that is no part of one comes
-- first.
abbrev pub IsUntaken : List ℕ → OpenFault → Type 0
IsUntaken log DeviceFault = Unit {0}
IsUntaken log (NotAJournal place) = IsNoPointLog log place
IsUntaken log OldVersion = (version_of log ≡ 1) × ((last : Option Point) × HasLast last log)
IsUntaken log Full = ⊥
IsUntaken log NoMemory = Unit {0}

-- the same of the frames that a log of a version was found to have
abbrev pub AreUntaken : ℕ → List Frame → OpenFault → Type 0
AreUntaken version frames DeviceFault = ⊥
AreUntaken version frames (NotAJournal place) = IsBadFrame frames place
AreUntaken version frames OldVersion = (version ≢ 2) × ((last : Option Point) × IsPointOf frames last)
AreUntaken version frames Full = ⊥
AreUntaken version frames NoMemory = Unit {0}

-- A disk was read and nothing else: every byte is as it was, and so is each image since the first sync that succeeded. Unless a device
-- failed, its content is all that a crash may leave, or no call was made on it.
pub record IsOnlyRead (failed : Type 0) (old new : DiskView) : Type 0 where
  pub unwritten : Unwritten old new
  pub opens : Opens old new
  pub settled : (failed → ⊥) → OnlyContent new ⊎ SameDisk old new
  pub later : old.faults ≤ new.faults

-- A log is left alone: it is as it was or in order, and each image since the first sync that succeeded is the same log. Its content is all
-- that a crash may leave, or no call was made on the disk.
pub record IsLeftAlone (old new : DiskView) : Type 0 where
  pub content : LeavesDiskAlone ⊥ old new
  pub opens : Opens old new
  pub settled : OnlyContent new ⊎ SameDisk old new
