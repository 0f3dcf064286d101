-- What an opening answers of a disk. The rules are this project's own.
use Rattle.std.specs.Prelude.{◌≡◌, ◌≢◌, ◌≤◌, ℕ, true, List, Some, is_some}
use Rattle.marc_types.specs.declared.entry.Limits.{Limits}
use Rattle.outside.specs.Disk.{DiskView, OnlyContent}
use Rattle.outside.specs.Fault.{Rose}
use Rattle.commit_journal.specs.declared.frame.Frame.{Frame}
use Rattle.commit_journal.specs.Journal.{IsRecovered, IsSettling, Unwritten}
use Rattle.durable_catalogue.specs.declared.fault.OpenFault.{OpenFault}
use Rattle.durable_catalogue.specs.declared.fault.OpenFault.TheVariants.{DeviceFault}
use Rattle.durable_catalogue.specs.Openings.{IsUnopened, IsOpening, KeepsContent}
use Rattle.durable_catalogue.specs.Refused.{LeavesDiskAlone, LeavesSettled, IsPutInOrder}

-- A disk whose log was opened: the log is in order, and has the history that it had. What was read is durable: the log has synced, where
-- it tells its moments, and its content is all that a crash now may leave.
pub record IsOpenedDisk (old new : DiskView) : Type 0 where
  pub crash : IsOpening old new
  pub content : KeepsContent old new
  pub in_order : IsPutInOrder old new
  pub synced : old.dated ≡ true → is_some (new.synced old.moment) ≡ true
  pub only : OnlyContent new
  pub later : old.faults ≤ new.faults

-- A log of these frames that was found is taken: it is brought into order, and ends with a closed gate at that place.
pub record IsTakenLog (frames : List Frame) (place version : ℕ) (old new : DiskView) : Type 0 where
  pub recovered : IsRecovered frames place version old new
  pub settling : IsSettling old new
  pub opened : IsOpenedDisk old new

-- A disk whose log was refused: the log is left alone, with the history that it had, and unless a device failed every byte is as it was,
-- and the content is all that a crash may leave. The fault comes only where the log is so, and a device's only where the count of faults
-- rose.
pub record IsRefusedDisk (limits : Limits) (old new : DiskView) (why : OpenFault) : Type 0 where
  pub crash : IsOpening old new
  pub content : KeepsContent old new
  pub left_alone : LeavesDiskAlone (why ≡ DeviceFault) old new
  pub kept : why ≢ DeviceFault → Unwritten old new
  pub settled : LeavesSettled old new why
  pub so : (log : List ℕ) → old.content ≡ Some log → IsUnopened limits log why
  pub later : old.faults ≤ new.faults
  pub failed : why ≡ DeviceFault → Rose old.faults new.faults
