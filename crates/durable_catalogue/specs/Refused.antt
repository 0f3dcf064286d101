-- What an opening leaves of a log. The rules are this project's own.
use Rattle.std.specs.Prelude.{◌≡◌, ◌≢◌, ◌⊎◌, List, ℕ, Some}
use Rattle.outside.specs.Disk.{DiskView, OnlyContent, SameDisk}
use Rattle.commit_journal.specs.Journal.{LeavesLog, LeavesContent, in_order}
use Rattle.durable_catalogue.specs.declared.fault.OpenFault.{OpenFault}
use Rattle.durable_catalogue.specs.declared.fault.OpenFault.TheVariants.{DeviceFault, NoMemory}

-- A log that is refused is left alone: it has the frames that it had, and one that is no journal at a place is as it was, byte for
-- byte. Any other is so too, or in order, unless a device failed: a blank log may be written anew, and of a longer one what stood
-- behind its first closed gate may be gone.
pub record LeavesAlone (failed : Type 0) (log now : List ℕ) : Type 0 where
  pub leaves : LeavesLog log now
  pub bytes : (failed → ⊥) → (now ≡ log) ⊎ (now ≡ in_order log)

-- so it is where the disk tells its content
abbrev pub LeavesDiskAlone : Type 0 → DiskView → DiskView → Type 0
LeavesDiskAlone failed old new = (log now : List ℕ) → old.content ≡ Some log → new.content ≡ Some now → LeavesAlone failed log now

-- Of a disk that is refused, unless a device failed, the content is all that a crash may leave; or there was no memory for the opening
-- to begin, and the disk is as it was.
abbrev pub LeavesSettled : DiskView → DiskView → OpenFault → Type 0
LeavesSettled old new fault = fault ≢ DeviceFault → OnlyContent new ⊎ ((fault ≡ NoMemory) × SameDisk old new)

-- where the disk tells its content, it is the log brought into order, which has the frames that it had
pub record IsPutInOrder (old new : DiskView) : Type 0 where
  pub leaves : LeavesContent old new
  pub bytes : (log : List ℕ) → old.content ≡ Some log → new.content ≡ Some (in_order log)
