-- A log that was begun, before its frames are read.
use Rattle.std.specs.Prelude.{◌≡◌, ◌≤◌, true, is_some}
use Rattle.outside.specs.Disk.{DiskView, OnlyContent}
use Rattle.commit_journal.specs.declared.fault.JournalFault.{JournalFault}
use Rattle.commit_journal.specs.Journal.{Opens, HasOpenCause, Unwritten}

-- A log was begun: its disk was synced and read, the content is all that a crash may leave, and nothing was written.
pub record IsBegun (old new : DiskView) : Type 0 where
  pub unwritten : Unwritten old new
  pub only : OnlyContent new
  pub opens : Opens old new
  pub synced : old.dated ≡ true → is_some (new.synced old.moment) ≡ true
  pub later : old.faults ≤ new.faults

-- A log was not found, and this is why: nothing was written, and each image since a first sync that succeeded is as it was.
pub record IsUnfound (old new : DiskView) (fault : JournalFault) : Type 0 where
  pub unwritten : Unwritten old new
  pub opens : Opens old new
  pub later : old.faults ≤ new.faults
  pub cause : HasOpenCause old new fault
