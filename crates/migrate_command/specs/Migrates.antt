-- How the command ends that brings a journal's history into another journal. The rules and the line are this project's own.
use Rattle.std.specs.Prelude.{◌≡◌, ◌≢◌, ◌⊎◌, ℕ, true, List, [], ◌∷◌, ◌++◌, length, Some, None, codes}
use Rattle.std.specs.Fmt.{decimal}
use Rattle.std.specs.Io.KnownBytes.{Appends}
use Rattle.marc_types.specs.declared.entry.Entry.{Entry}
use Rattle.outside.specs.Fault.{Rose}
use Rattle.outside.specs.Room.{RoomView, SameBut, IsUntouched}
use Rattle.outside.specs.Sink.{WritesFront}
use Rattle.commit_journal.specs.Log.{version_of}
use Rattle.durable_catalogue.specs.Logs.{HasHistory}
use Rattle.durable_catalogue.specs.Openings.{IsUnopened}
use Rattle.durable_catalogue.specs.declared.fault.OpenFault.{OpenFault}
use Rattle.durable_catalogue.specs.declared.fault.OpenFault.TheVariants as opening
use Rattle.console_lines.specs.Ends.{Outcome, IsTold, TellsNoFault, console_unwritten}
use Rattle.console_lines.specs.declared.end.End.{End}
use Rattle.console_lines.specs.declared.end.End.TheVariants.{Done, Refused, Unwritten, Told, BroughtInPart, Differ}
use Rattle.console_lines.specs.declared.end.Unwritten.TheVariants.{Out, Side, Pages, Console}
use Rattle.console_lines.specs.declared.fault.Fault.{Fault}
use Rattle.console_lines.specs.declared.fault.Fault.TheVariants.{Usage, Input, Device, NotAJournal, Full, Memory, OldVersion, OtherHistory}
use Rattle.journal_files.specs.Faults.{fault_of_opening, IsDeviceOf}
use Rattle.journal_files.specs.Journals.{journal_limits, log_bytes, KeepsHistory, HasSynced, HasFittingHistory}
use Rattle.migrate_command.specs.declared.fault.MigrateFault.{MigrateFault}
use Rattle.migrate_command.specs.Migrations.{IsFit, IsUnfit, IsUnmigrated, IsBrought, IsAmid}
use Rattle.migrate_command.specs.Told.{fault_of_migrating}

-- how it ends: nothing is refused, no input is read, and no output is written
abbrev pub EndsMigrating : End → Type 0
EndsMigrating Done = Unit {0}
EndsMigrating Refused = ⊥
EndsMigrating (Unwritten Out) = ⊥
EndsMigrating (Unwritten Side) = ⊥
EndsMigrating (Unwritten Pages) = ⊥
EndsMigrating (Unwritten Console) = Unit {0}
EndsMigrating (Told Usage) = ⊥
EndsMigrating (Told Input) = ⊥
EndsMigrating (Told Device) = Unit {0}
EndsMigrating (Told (NotAJournal place)) = Unit {0}
EndsMigrating (Told Full) = Unit {0}
EndsMigrating (Told Memory) = Unit {0}
EndsMigrating (Told OldVersion) = Unit {0}
EndsMigrating (Told OtherHistory) = Unit {0}
EndsMigrating BroughtInPart = ⊥
EndsMigrating Differ = ⊥

-- Why the old journal's history is not brought over: its log was not opened, and not for its version; or it has a history, and is blank
-- or of the newest version.
pub data WhyNotFrom (room : RoomView) (name : List ℕ) (fault : Fault) : Type 0 where
  NotOpened : (reason : OpenFault) → reason ≢ opening.OldVersion → fault ≡ fault_of_opening reason
      → (room.tells ≡ true → IsUnopened (journal_limits room) (log_bytes room name) reason) → WhyNotFrom room name fault
  Newest : fault ≡ OldVersion → (room.tells ≡ true → (version_of (log_bytes room name) ≡ 2) × HasFittingHistory room (log_bytes room name))
      → WhyNotFrom room name fault

-- why it is not brought into the new one's log, where the old log is of version 1 and has these entries, within the room's limits
pub record WhyNotInto (room : RoomView) (from into : List ℕ) (fault : Fault) : Type 0 where
  pub reason : MigrateFault
  pub is : fault ≡ fault_of_migrating reason
  pub oldest : room.tells ≡ true → version_of (log_bytes room from) ≡ 1
  pub history : room.tells ≡ true → HasFittingHistory room (log_bytes room from)
  pub so : room.tells ≡ true → (entries : List Entry) × HasHistory entries (log_bytes room from)
      × IsUnmigrated (journal_limits room) entries (log_bytes room into) reason

-- an image has the entries that the log of that name had, or, where that is fit for the history, more of the history, in no more bytes
-- than these take; where it is fit the image is of version 2
abbrev pub IsAmidInto : List Entry → List Entry → RoomView → List ℕ → List ℕ → Type 0
IsAmidInto history entries room name c =
    ∥ IsAmid (IsFit (journal_limits room) history entries (log_bytes room name)) history entries (log_bytes room name) c ∥₁

-- A history is brought into the log of that name, as far as it came: the log was not opened, or it is a closed log again, each image
-- since its first sync is amid, and so is the file; of a log that tells its moments and has not synced the file is as it was.
pub data BringsInto (history : List Entry) (old new : RoomView) (name : List ℕ) : Type 0 where
  Unopened : IsUntouched old new name → BringsInto history old new name
  Opened : new.has_log name ≡ true
      → ((entries : List Entry) (s : ℕ) (c : List ℕ) → HasHistory entries (log_bytes old name) → (new.log name).synced 0 ≡ Some s → (new.log name).left s c
      → IsAmidInto history entries old name c)
      → ((entries : List Entry) → HasHistory entries (log_bytes old name) → IsAmidInto history entries old name (log_bytes new name))
      → ((new.log name).dated ≡ true → (new.log name).synced 0 ≡ None → log_bytes new name ≡ log_bytes old name)
      → BringsInto history old new name

-- the log of that name was not opened, and is as it was; or it is a closed log, and once it has synced its file is all that a crash may
-- leave of it
pub data IsSettledLog (old new : RoomView) (name : List ℕ) : Type 0 where
  Untouched : IsUntouched old new name → IsSettledLog old new name
  Settled : new.has_log name ≡ true → (HasSynced (new.log name) → (c : List ℕ) → (new.log name).image c → c ≡ log_bytes new name)
      → IsSettledLog old new name

-- the file of that name is a closed log, and all that a crash may leave of it has this history, in version 2, and ends with its closed
-- gate
pub record HasInEachImage (history : List Entry) (room : RoomView) (name : List ℕ) : Type 0 where
  pub is_log : room.has_log name ≡ true
  pub images : (c : List ℕ) → (room.log name).image c → IsBrought history c

-- `migrated N`
abbrev pub migrated_line : ℕ → List ℕ
migrated_line count = codes "migrated " ++ decimal count ++ 10 ∷ []

-- The command `migrate`: the history of a journal of version 1 is brought into another journal, and the old one keeps it.
pub record Migrates (from into : List ℕ) (o : Outcome) : Type 0 where
  pub ends : EndsMigrating o.end
  pub keeps : o.old.tells ≡ true → KeepsHistory (IsDeviceOf o from) o.old o.new from
  pub brings : (entries : List Entry) → o.old.tells ≡ true → HasHistory entries (log_bytes o.old from) → ∥ BringsInto entries o.old o.new into ∥₁
  -- a new one that is not fit for the history is left alone, whatever the end is, in its file and in what a crash may leave
  pub alone : (entries : List Entry) → o.old.tells ≡ true → HasHistory entries (log_bytes o.old from)
      → IsUnfit (journal_limits o.old) entries (log_bytes o.old into) → KeepsHistory (IsDeviceOf o into) o.old o.new into
  -- unless a device failed, a new one that doesn't get the history is as it was, byte for byte, and a crash leaves the same of it
  pub kept : (why : Fault) → o.end ≡ Told why → why ≢ Device → o.old.tells ≡ true → log_bytes o.new into ≡ log_bytes o.old into
  pub settled : (why : Fault) → o.end ≡ Told why → why ≢ Device → o.old.tells ≡ true → IsSettledLog o.old o.new into
  -- a fault is told for its reason; one of the old journal comes before the new one is opened
  pub told : (why : Fault) → o.end ≡ Told why
      → IsTold why o × ((WhyNotFrom o.old from why × SameBut o.old o.new (from ∷ [])) ⊎ WhyNotInto o.old from into why)
  pub device : o.end ≡ Told Device → Rose (o.old.log_faults from) (o.new.log_faults from) ⊎ Rose (o.old.log_faults into) (o.new.log_faults into)
  -- without one the old journal has a history, within the room's limits, and is of version 1, and the new one was fit for that
  pub history : TellsNoFault o.end → o.old.tells ≡ true → HasFittingHistory o.old (log_bytes o.old from)
  pub version : TellsNoFault o.end → o.old.tells ≡ true → version_of (log_bytes o.old from) ≡ 1
  pub fit : (entries : List Entry) → TellsNoFault o.end → o.old.tells ≡ true → HasHistory entries (log_bytes o.old from)
      → ∥ ((before : List Entry) × IsFit (journal_limits o.old) entries before (log_bytes o.old into)) ∥₁
  -- the new one has it, in its file and in each image, and is of version 2
  pub all : (entries : List Entry) → TellsNoFault o.end → o.old.tells ≡ true → HasHistory entries (log_bytes o.old from)
      → IsBrought entries (log_bytes o.new into)
  pub durable : (entries : List Entry) → TellsNoFault o.end → o.old.tells ≡ true → HasHistory entries (log_bytes o.old from)
      → HasInEachImage entries o.new into
  -- the console is told how many entries it has, or a front of that, where it failed
  pub line : (entries : List Entry) → o.end ≡ Done → o.old.tells ≡ true → HasHistory entries (log_bytes o.old from)
      → Appends o.told o.now (migrated_line (length entries))
  pub front : (entries : List Entry) → o.end ≡ console_unwritten → o.old.tells ≡ true → HasHistory entries (log_bytes o.old from)
      → WritesFront o.told o.now (migrated_line (length entries))
  pub console : o.end ≡ console_unwritten → Rose o.faults o.faults_now
