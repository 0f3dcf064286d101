-- How the command ends that brings what is sound of a damaged journal into another journal. The rules are this project's own.
use Rattle.std.specs.Prelude.{◌≡◌, ◌≢◌, ℕ, true, List, [], ◌∷◌, Some, IsSomeAnd}
use Rattle.std.specs.Io.KnownBytes.{Appends}
use Rattle.marc_types.specs.declared.entry.Entry.{Entry}
use Rattle.outside.specs.Fault.{Rose}
use Rattle.outside.specs.Room.{RoomView, SameBut}
use Rattle.outside.specs.Sink.{WritesFront}
use Rattle.entry_record.specs.History.{IsWithin}
use Rattle.console_lines.specs.Ends.{Outcome, IsTold, TellsNoFault, console_unwritten}
use Rattle.console_lines.specs.declared.end.End.{End}
use Rattle.console_lines.specs.declared.end.End.TheVariants.{Done, Refused, Unwritten, Told, BroughtInPart, Differ}
use Rattle.console_lines.specs.declared.end.Unwritten.TheVariants.{Out, Side, Pages, Console}
use Rattle.console_lines.specs.declared.fault.Fault.{Fault}
use Rattle.console_lines.specs.declared.fault.Fault.TheVariants.{Usage, Input, Device, NotAJournal, Full, Memory, OldVersion, OtherHistory}
use Rattle.journal_files.specs.Faults.{IsDeviceOf}
use Rattle.journal_files.specs.Journals.{journal_limits, log_bytes, KeepsHistory}
use Rattle.migrate_command.specs.declared.fault.MigrateFault.{MigrateFault}
use Rattle.migrate_command.specs.Migrations.{IsFit, IsUnfit, IsUnmigrated, IsBrought}
use Rattle.migrate_command.specs.Migrates.{BringsInto, IsSettledLog, HasInEachImage}
use Rattle.migrate_command.specs.Told.{fault_of_migrating}
use Rattle.sound_frames.specs.Sound.{SoundPart, IsSoundOf, IsNothing}
use Rattle.salvage_command.specs.Told.{salvaged_lines}
use Rattle.salvage_command.specs.Finding.{IsWorth}

-- how it ends: nothing is refused, and no output is written
abbrev pub EndsSalvaging : End → Type 0
EndsSalvaging Done = Unit {0}
EndsSalvaging Refused = ⊥
EndsSalvaging (Unwritten Out) = ⊥
EndsSalvaging (Unwritten Side) = ⊥
EndsSalvaging (Unwritten Pages) = ⊥
EndsSalvaging (Unwritten Console) = Unit {0}
EndsSalvaging (Told Usage) = ⊥
EndsSalvaging (Told Input) = Unit {0}
EndsSalvaging (Told Device) = Unit {0}
EndsSalvaging (Told (NotAJournal place)) = Unit {0}
EndsSalvaging (Told Full) = Unit {0}
EndsSalvaging (Told Memory) = Unit {0}
EndsSalvaging (Told OldVersion) = Unit {0}
EndsSalvaging (Told OtherHistory) = Unit {0}
EndsSalvaging BroughtInPart = ⊥
EndsSalvaging Differ = ⊥

-- Why what is sound of a journal is not brought into the log of that name: it is nothing, or passes the limits, and then nothing is opened
-- to be written; or the log doesn't take it.
pub data WhyNot (old new : RoomView) (all : SoundPart) (into : List ℕ) (why : Fault) : Type 0 where
  Nothing : (place : ℕ) → why ≡ NotAJournal place → IsNothing all place → SameBut old new [] → WhyNot old new all into why
  TooMuch : why ≡ Full → (IsWithin (journal_limits old) all.entries → ⊥) → SameBut old new [] → WhyNot old new all into why
  NotTaken : (reason : MigrateFault) → why ≡ fault_of_migrating reason → IsWorth (journal_limits old) all
      → IsUnmigrated (journal_limits old) all.entries (log_bytes old into) reason → WhyNot old new all into why

-- something is sound, within the limits, and the log of that name was fit for it
pub record WasFit (room : RoomView) (all : SoundPart) (into : List ℕ) : Type 0 where
  pub worth : IsWorth (journal_limits room) all
  pub before : List Entry
  pub fit : IsFit (journal_limits room) all.entries before (log_bytes room into)

-- The bytes of the file of that name are told, and this is what is sound of them.
abbrev pub IsSalvageOf : RoomView → List ℕ → List ℕ → SoundPart → Type 0
IsSalvageOf room journal log all = (room.tells ≡ true) × (room.file journal ≡ Some log) × IsSoundOf log all

-- The command `salvage`: what is sound of a journal's bytes is brought into another journal, and the first is only read.
pub record Salvages (journal into : List ℕ) (o : Outcome) : Type 0 where
  pub ends : EndsSalvaging o.end
  -- no file but the new one changes
  pub only : SameBut o.old o.new (into ∷ [])
  -- the new one gets a front of the sound entries, whatever the end is, and one that is not fit for them is left alone
  pub brings : (log : List ℕ) (all : SoundPart) → IsSalvageOf o.old journal log all → ∥ BringsInto all.entries o.old o.new into ∥₁
  pub alone : (log : List ℕ) (all : SoundPart) → IsSalvageOf o.old journal log all → IsUnfit (journal_limits o.old) all.entries (log_bytes o.old into)
      → KeepsHistory (IsDeviceOf o into) o.old o.new into
  -- unless a device failed, a new one that doesn't get them is as it was, byte for byte, and a crash leaves the same of it
  pub kept : (why : Fault) → o.end ≡ Told why → why ≢ Device → o.old.tells ≡ true → log_bytes o.new into ≡ log_bytes o.old into
  pub settled : (why : Fault) → o.end ≡ Told why → why ≢ Device → o.old.tells ≡ true → IsSettledLog o.old o.new into
  -- a fault is told for its reason
  pub told : (why : Fault) → o.end ≡ Told why → IsTold why o
  pub so : (why : Fault) → o.end ≡ Told why → why ≢ Input → why ≢ Memory → o.old.tells ≡ true
      → IsSomeAnd (o.old.file journal) (λ log. (all : SoundPart) × IsSoundOf log all × WhyNot o.old o.new all into why)
  pub input : o.end ≡ Told Input → Rose (o.old.in_faults journal) (o.new.in_faults journal) × SameBut o.old o.new []
  pub device : o.end ≡ Told Device → Rose (o.old.log_faults into) (o.new.log_faults into)
  -- without one the file was there with something sound, and the new one was fit for it
  pub fit : TellsNoFault o.end → o.old.tells ≡ true
      → IsSomeAnd (o.old.file journal) (λ log. (all : SoundPart) × IsSoundOf log all × WasFit o.old all into)
  -- the new one has exactly the sound entries, in its file and in each image, and is of version 2
  pub all : (log : List ℕ) (all : SoundPart) → TellsNoFault o.end → IsSalvageOf o.old journal log all → IsBrought all.entries (log_bytes o.new into)
  pub durable : (log : List ℕ) (all : SoundPart) → TellsNoFault o.end → IsSalvageOf o.old journal log all → HasInEachImage all.entries o.new into
  -- the console is told what was found, or a front of that, where it failed
  pub line : (log : List ℕ) (all : SoundPart) → o.end ≡ Done → IsSalvageOf o.old journal log all → Appends o.told o.now (salvaged_lines log all)
  pub front : (log : List ℕ) (all : SoundPart) → o.end ≡ console_unwritten → IsSalvageOf o.old journal log all
      → WritesFront o.told o.now (salvaged_lines log all)
  pub console : o.end ≡ console_unwritten → Rose o.faults o.faults_now
