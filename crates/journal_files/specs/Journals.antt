-- A journal in a room: as it is opened, and as it is closed again. The rules are this project's own.
use Rattle.std.specs.Prelude.{◌≡◌, ◌≢◌, ℕ, ◌+◌, ◌≤◌, max, true, List, [], ◌∷◌, ◌++◌, length, take, Option, Some, None, is_some}
use Rattle.marc_types.specs.declared.entry.Entry.{Entry}
use Rattle.marc_types.specs.declared.entry.Limits.{Limits}
use Rattle.marc_types.specs.Limits.{limits_of}
use Rattle.outside.specs.Disk.{DiskView, SameDisk, OnlyContent}
use Rattle.outside.specs.Fault.{Rose}
use Rattle.outside.specs.Room.{RoomView, AsLog, SameBut, IsUntouched, bytes_or_none}
use Rattle.commit_journal.specs.declared.format.TheConstants.{BLANK_LENGTH}
use Rattle.commit_journal.specs.Log.{walk_of, version_of}
use Rattle.commit_journal.specs.Journal.{EndsAt, LeavesLog, in_order}
use Rattle.entry_record.specs.History.{next_run, IsWithin}
use Rattle.durable_catalogue.specs.Logs.{HasHistory, IsLogOf}
use Rattle.durable_catalogue.specs.Images.{HoldsEntries, framed_lengths}
use Rattle.durable_catalogue.specs.declared.fault.OpenFault.{OpenFault}
use Rattle.durable_catalogue.specs.declared.fault.OpenFault.TheVariants.{DeviceFault}
use Rattle.durable_catalogue.specs.Opened.{IsRefusedDisk}
use Rattle.durable_catalogue.specs.Openings.{IsUnopened}
use Rattle.durable_catalogue.specs.Refused.{LeavesAlone}
use Rattle.durable_catalogue.specs.Durables.{Opening, IsLeft, marked}
use Rattle.durable_catalogue.specs.Views.{DurableView}

-- the most that a history has in a room: entries, and bytes
abbrev pub journal_limits : RoomView → Limits
journal_limits room = limits_of room.is_large

-- the bytes of the log of that name, none where there is no such file
abbrev pub log_bytes : RoomView → List ℕ → List ℕ
log_bytes room name = bytes_or_none (room.file name)

-- these entries are the history of the log of that name, where the room tells it
abbrev pub IsHistoryIn : RoomView → List ℕ → List Entry → Type 0
IsHistoryIn room name entries = room.tells ≡ true → HasHistory entries (log_bytes room name)

-- these entries are the history of a log, where its disk tells it
abbrev pub IsHistoryOn : DiskView → List Entry → Type 0
IsHistoryOn disk entries = (log : List ℕ) → disk.content ≡ Some log → HasHistory entries log

-- the log has a history, and it is within the room's limits
abbrev pub HasFittingHistory : RoomView → List ℕ → Type 0
HasFittingHistory room log = ∥ ((entries : List Entry) × IsLogOf entries log × IsWithin (journal_limits room) entries) ∥₁

-- A catalogue of these entries was opened over the log of that name in a room. Its opening left the log no longer than it was, or than a
-- blank one; its time begins with the log's; and it synced, where the log tells its moments.
pub record IsOpenedFrom (room : RoomView) (name : List ℕ) (entries : List Entry) (mark : Option (List Entry)) (o : Opening) : Type 0 where
  pub history : IsHistoryIn room name entries
  pub version : room.tells ≡ true → version_of (log_bytes room name) ≡ 2
  pub within : IsWithin (journal_limits room) entries
  pub unmarked : mark ≡ None
  pub limits : o.origin.limits ≡ journal_limits room
  pub run : o.origin.run ≡ next_run entries
  pub opened : o.opened ≡ length entries
  pub length : room.tells ≡ true → o.length ≤ max BLANK_LENGTH (length (log_bytes room name))
  pub tells : room.tells ≡ true → o.tells ≡ true
  pub moment : o.moment ≡ 0
  pub faults : o.faults ≡ 0
  pub synced : o.dated ≡ true → is_some o.synced ≡ true

-- A catalogue of these entries, with those of a frame that a device failed to take, at most 32, was closed as the log of that name:
-- what a crash may leave of it, and the file. The file is of version 2, and no longer than the log when it was open, with a frame for each
-- entry since then and for each of that frame. Without a mark it ends with its first closed gate, and is all that a crash may leave.
pub record IsClosedTo (room : RoomView) (name : List ℕ) (entries : List Entry) (mark : Option (List Entry)) (o : Opening) : Type 0 where
  pub closed : room.has_log name ≡ true
  pub left : IsLeft o entries (marked mark) (room.log name)
  pub bytes : List ℕ
  pub file : room.file name ≡ Some bytes
  pub content : (room.log name).content ≡ Some bytes
  pub holds : HoldsEntries (length entries) entries (marked mark) bytes
  pub newest : version_of bytes ≡ 2
  pub longest : length bytes + framed_lengths (take o.opened entries) ≤ o.length + framed_lengths (entries ++ marked mark)
  pub few : length (marked mark) ≤ 32
  pub ended : mark ≡ None → EndsAt (walk_of bytes).place bytes
  pub only : mark ≡ None → OnlyContent (room.log name)

-- the same of a catalogue as it is seen
abbrev pub IsOpenedAs : RoomView → List ℕ → DurableView → Type 0
IsOpenedAs room name d = IsOpenedFrom room name d.entries d.mark d.opened

-- a catalogue over a journal was closed to the log of a name
abbrev pub IsClosedAs : RoomView → List ℕ → DurableView → Type 0
IsClosedAs room name d = IsClosedTo room name d.entries d.mark d.opened

-- the file of that name is the log that this disk was closed as, with its content and its moments
pub record IsClosedDisk (disk : DiskView) (room : RoomView) (name : List ℕ) : Type 0 where
  pub file : room.file name ≡ disk.content
  pub is_log : room.has_log name ≡ true
  pub same : SameDisk disk (room.log name)

-- a disk has synced since its time began, where it tells its moments
abbrev pub HasSynced : DiskView → Type 0
HasSynced disk = disk.dated ≡ true → is_some (disk.synced 0) ≡ true

-- The log of that name was just opened as this disk: it has the file's bytes, where the room tells them, its time begins, and it has no
-- fault yet. Nothing changed under another name.
pub record IsJustOpened (old new : RoomView) (name : List ℕ) (disk : DiskView) : Type 0 where
  pub apart : SameBut old new (name ∷ [])
  pub bytes : old.tells ≡ true → disk.content ≡ Some (log_bytes old name)
  pub beginning : disk.moment ≡ 0
  pub fresh : disk.faults ≡ 0

-- The log of that name was opened, and was closed as a log again. Its file is left alone, with the history that it had, and each image
-- since the first sync is the same log, with that history; of a log that tells its moments and has not synced the file is as it was.
-- Unless a device failed, its file is all that a crash may leave of a log that has synced.
pub record IsClosedAgain (failed : Type 0) (old new : RoomView) (name : List ℕ) : Type 0 where
  pub is_log : new.has_log name ≡ true
  pub alone : LeavesAlone failed (log_bytes old name) (log_bytes new name)
  pub history : (entries : List Entry) → HasHistory entries (log_bytes old name) → HasHistory entries (log_bytes new name)
  pub images : (s : ℕ) (c : List ℕ) → (new.log name).synced 0 ≡ Some s → (new.log name).left s c → LeavesLog (log_bytes old name) c
  pub image_history : (entries : List Entry) (s : ℕ) (c : List ℕ) → HasHistory entries (log_bytes old name) → (new.log name).synced 0 ≡ Some s
      → (new.log name).left s c → HasHistory entries c
  pub unsynced : (new.log name).dated ≡ true → (new.log name).synced 0 ≡ None → log_bytes new name ≡ log_bytes old name
  pub settled : (failed → ⊥) → HasSynced (new.log name) → (c : List ℕ) → (new.log name).image c → c ≡ log_bytes new name

-- The log of that name keeps its history: it was not opened, and is as it was; or it was, and was closed as a log again. Where a device
-- failed, the file still has the frames that it had.
pub data KeepsHistory (failed : Type 0) (old new : RoomView) (name : List ℕ) : Type 0 where
  Unopened : IsUntouched old new name → KeepsHistory failed old new name
  Opened : IsClosedAgain failed old new name → KeepsHistory failed old new name

-- A log that was opened is in order, and has the frames that it had. It keeps the history that its bytes had: its content has it,
-- and each image since the first sync is the same log. What was read is durable: it has synced, where it tells its moments, and its content
-- is all that a crash now may leave.
pub record KeepsLog (log : List ℕ) (disk : DiskView) : Type 0 where
  pub leaves : LeavesLog log (bytes_or_none disk.content)
  pub bytes : bytes_or_none disk.content ≡ in_order log
  pub content : (entries : List Entry) → HasHistory entries log → HasHistory entries (bytes_or_none disk.content)
  pub images : (s : ℕ) (c : List ℕ) → disk.synced 0 ≡ Some s → disk.left s c → LeavesLog log c
  pub synced : HasSynced disk
  pub only : (c : List ℕ) → disk.image c → c ≡ bytes_or_none disk.content

-- The log of that name, of that version, was opened to be read, and the disk keeps it.
pub record IsOpenLog (old new : RoomView) (name : List ℕ) (version : ℕ) (disk : DiskView) : Type 0 where
  pub is_open : new.open_as name ≡ Some AsLog
  pub version_is : old.tells ≡ true → version_of (log_bytes old name) ≡ version
  pub kept : old.tells ≡ true → KeepsLog (log_bytes old name) disk

-- The log of that name was refused, is closed, and keeps its history; unless a device failed its file is as it was, byte for byte. The fault
-- comes only where the log is so, and a device's only where the count of faults rose.
pub record IsRefusedLog (old new : RoomView) (name : List ℕ) (why : OpenFault) : Type 0 where
  pub closed : new.open_as name ≡ None
  pub keeps : old.tells ≡ true → KeepsHistory (why ≡ DeviceFault) old new name
  pub kept : old.tells ≡ true → why ≢ DeviceFault → log_bytes new name ≡ log_bytes old name
  pub so : old.tells ≡ true → IsUnopened (journal_limits old) (log_bytes old name) why
  pub cause : why ≡ DeviceFault → Rose (old.log_faults name) (new.log_faults name)

-- A log that was refused as this disk, and closed, keeps its history wherever it had just been opened and the opening left it as a refusal
-- does.
abbrev pub KeepsRefused : {R L : Type 0} → (R → RoomView) → (L → DiskView) → R → R → List ℕ → L → OpenFault → OpenFault → Type 0
KeepsRefused {R} {L} seen log_seen old new name refused why answer = (before : R) (opened : L) → IsJustOpened (seen before) (seen old) name (log_seen opened)
    → IsRefusedDisk (journal_limits (seen before)) (log_seen opened) (log_seen refused) why → IsRefusedLog (seen before) (seen new) name answer

-- A catalogue was closed as the log of that name, where the room tells and the log told when it was opened, as that disk.
abbrev pub IsClosedOver : DiskView → RoomView → RoomView → List ℕ → DurableView → Type 0
IsClosedOver opened old new name d = old.tells ≡ true → is_some opened.content ≡ true → IsClosedAs new name d

-- a mark has its cause in the count of faults, where the log had none when it was opened, as that disk
abbrev pub HasMarkCause : DiskView → RoomView → RoomView → List ℕ → Option (List Entry) → Type 0
HasMarkCause opened old new name mark = is_some mark ≡ true → opened.faults ≡ 0 → Rose (old.log_faults name) (new.log_faults name)

-- the file of that name is a closed log, and durable: it has synced, where it tells its moments, and its file is all that a crash may
-- leave
pub record IsDurable (room : RoomView) (name : List ℕ) : Type 0 where
  pub is_log : room.has_log name ≡ true
  pub synced : HasSynced (room.log name)
  pub only : (c : List ℕ) → (room.log name).image c → c ≡ log_bytes room name
