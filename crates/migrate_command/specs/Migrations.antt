-- A journal's history that is brought into another journal. The rules are this project's own.
use Rattle.std.specs.Prelude.{◌≡◌, ◌≢◌, ◌⊎◌, ℕ, ◌+◌, ◌≤◌, max, true, List, ◌++◌, length, Some, None, is_some}
use Rattle.marc_types.specs.declared.entry.Entry.{Entry}
use Rattle.marc_types.specs.declared.entry.Limits.{Limits}
use Rattle.outside.specs.Disk.{DiskView, OnlyContent, SameDisk}
use Rattle.outside.specs.Fault.{Rose}
use Rattle.commit_journal.specs.declared.format.TheConstants.{BLANK_LENGTH}
use Rattle.commit_journal.specs.Log.{walk_of, version_of}
use Rattle.commit_journal.specs.Journal.{EndsAt, LeavesLog, Unwritten}
use Rattle.entry_record.specs.History.{IsWithin}
use Rattle.durable_catalogue.specs.Logs.{IsLogOf, HasHistory}
use Rattle.durable_catalogue.specs.Images.{framed_lengths}
use Rattle.entry_history.specs.Frames.{IsNoJournal}
use Rattle.durable_catalogue.specs.Refused.{LeavesAlone}
use Rattle.migrate_command.specs.declared.fault.MigrateFault.{MigrateFault}
use Rattle.migrate_command.specs.declared.fault.MigrateFault.TheVariants.{DeviceFault, NotAJournal, OldVersion, Full, NotPrefix, NoMemory}

-- a history begins with these entries
abbrev pub Begins : List Entry → List Entry → Type 0
Begins history entries = (rest : List Entry) × (entries ++ rest ≡ history)

-- both histories are within the limits
pub record AreWithin (limits : Limits) (history entries : List Entry) : Type 0 where
  pub old_within : IsWithin limits history
  pub new_within : IsWithin limits entries

-- the log is of the newest version, and has these entries, with which the history begins; both are within the limits
pub record IsFit (limits : Limits) (history entries : List Entry) (log : List ℕ) : Type 0 where
  pub version : version_of log ≡ 2
  pub has : IsLogOf entries log
  pub within : AreWithin limits history entries
  pub begins : Begins history entries

-- the log is not fit for the history, whatever entries it has
abbrev pub IsUnfit : Limits → List Entry → List ℕ → Type 0
IsUnfit limits history log = (entries : List Entry) → IsFit limits history entries log → ⊥

-- What a refused migration leaves of a log: its content is left alone, and each image since the first sync that succeeded is the same
-- log.
pub record LeavesRefused (fault : MigrateFault) (log : List ℕ) (old new : DiskView) : Type 0 where
  pub content : (now : List ℕ) → new.content ≡ Some now → LeavesAlone (fault ≡ DeviceFault) log now
  pub images : (s : ℕ) (c : List ℕ) → new.synced old.moment ≡ Some s → new.left s c → LeavesLog log c

-- so is a log that is not fit for the history, where the disk tells its content
abbrev pub LeavesUnfitAlone : Limits → List Entry → MigrateFault → DiskView → DiskView → Type 0
LeavesUnfitAlone limits history fault old new = (log : List ℕ) → old.content ≡ Some log → IsUnfit limits history log → LeavesRefused fault log old new

-- why a history is not brought into a log
abbrev pub IsUnmigrated : Limits → List Entry → List ℕ → MigrateFault → Type 0
IsUnmigrated limits history log DeviceFault = Unit {0}
IsUnmigrated limits history log (NotAJournal place) = IsNoJournal log place
IsUnmigrated limits history log OldVersion = (version_of log ≡ 1) × ((entries : List Entry) × IsLogOf entries log)
IsUnmigrated limits history log Full = (version_of log ≡ 2) × ((entries : List Entry) × IsLogOf entries log × (IsWithin limits entries → ⊥))
IsUnmigrated limits history log NotPrefix =
    (version_of log ≡ 2) × ((entries : List Entry) × IsLogOf entries log × AreWithin limits history entries × (Begins history entries → ⊥))
IsUnmigrated limits history log NoMemory = Unit {0}

-- a log of the newest version that has this history, and ends with its first closed gate
pub record IsBrought (history : List Entry) (log : List ℕ) : Type 0 where
  pub has : HasHistory history log
  pub newest : version_of log ≡ 2
  pub ended : EndsAt (walk_of log).place log

-- An image has these entries, in no more bytes than the log or a blank one; or, where it may have more and a history begins with them,
-- these and a front of what that has behind them, in no more bytes than with a frame for each entry there. Where it may have more it is
-- of the newest version.
pub data IsAmid (may : Type 0) (history entries : List Entry) (log image : List ℕ) : Type 0 where
  Before : IsLogOf entries image → (may → version_of image ≡ 2) → length image ≤ max BLANK_LENGTH (length log) → IsAmid may history entries log image
  Behind : may → (more rest : List Entry) → (entries ++ more) ++ rest ≡ history → IsLogOf (entries ++ more) image → version_of image ≡ 2
      → length image ≤ max BLANK_LENGTH (length log) + framed_lengths (more ++ rest) → IsAmid may history entries log image

-- A history is brought into a disk's log: each image since the first sync that succeeded has the entries that the log had, or, where
-- the log is fit for the history, these and a front of the rest, and is of the newest version; where no sync succeeded, the content is
-- as it was. So has the content.
pub record IsMigration (limits : Limits) (history : List Entry) (old new : DiskView) : Type 0 where
  pub images : (s : ℕ) (log c : List ℕ) (entries : List Entry) → new.synced old.moment ≡ Some s → old.content ≡ Some log → new.left s c
      → HasHistory entries log → ∥ IsAmid (IsFit limits history entries log) history entries log c ∥₁
  pub content : (log c : List ℕ) (entries : List Entry) → old.content ≡ Some log → new.content ≡ Some c → HasHistory entries log
      → ∥ IsAmid (IsFit limits history entries log) history entries log c ∥₁
  pub unsynced : old.dated ≡ true → new.synced old.moment ≡ None → new.content ≡ old.content
  pub dated : new.dated ≡ old.dated
  pub tells : is_some new.content ≡ is_some old.content

-- A history was brought into a disk's log: that was fit for it, and now all that a crash may leave is a log of the newest version with that
-- history, which ends with its closed gate. The history is one that a log was read as.
pub record IsMigrated (limits : Limits) (history : List Entry) (old new : DiskView) : Type 0 where
  pub fit : (log : List ℕ) → old.content ≡ Some log → (entries : List Entry) × IsFit limits history entries log
  pub all : (was c : List ℕ) → HasHistory history was → is_some old.content ≡ true → new.image c → IsBrought history c
  pub content : (was c : List ℕ) → HasHistory history was → new.content ≡ Some c → IsBrought history c

-- A history was refused for that reason, which comes only where the log is so, and a device's only where the count of faults rose. Unless a
-- device's fault is the reason, every byte is as it was, and is all that a crash may leave; or there was no memory for the opening to begin,
-- and the disk is as it was, no call having failed. A log that isn't fit for the history is left alone, whatever the reason is.
pub record IsRefusedHistory (limits : Limits) (history : List Entry) (old new : DiskView) (why : MigrateFault) : Type 0 where
  pub so : (log : List ℕ) → old.content ≡ Some log → IsUnmigrated limits history log why
  pub left_alone : LeavesUnfitAlone limits history why old new
  pub kept : why ≢ DeviceFault → Unwritten old new
  pub settled : why ≢ DeviceFault → OnlyContent new ⊎ ((why ≡ NoMemory) × SameDisk old new)
  pub failed : why ≡ DeviceFault → Rose old.faults new.faults
