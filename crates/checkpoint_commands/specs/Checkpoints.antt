-- How the command ends that puts a checkpoint of a journal's catalogue behind those of a log.
use Rattle.std.specs.Prelude.{◌≡◌, ◌≢◌, ◌⊎◌, ℕ, true, List, length, Option}
use Rattle.std.specs.Io.KnownBytes.{Appends}
use Rattle.marc_types.specs.declared.entry.Entry.{Entry}
use Rattle.outside.specs.Fault.{Rose}
use Rattle.outside.specs.Room.{RoomView, IsUntouched}
use Rattle.outside.specs.Sink.{WritesFront}
use Rattle.entry_record.specs.History.{IsWithin}
use Rattle.durable_catalogue.specs.Logs.{HasHistory}
use Rattle.console_lines.specs.Ends.{Outcome, IsTold, TellsNoFault, console_unwritten}
use Rattle.console_lines.specs.Lines.{checkpoint_line}
use Rattle.console_lines.specs.declared.end.End.{End}
use Rattle.console_lines.specs.declared.end.End.TheVariants.{Done, Refused, Unwritten, Told, BroughtInPart, Differ}
use Rattle.console_lines.specs.declared.end.Unwritten.TheVariants.{Out, Side, Pages, Console}
use Rattle.console_lines.specs.declared.fault.Fault.{Fault}
use Rattle.console_lines.specs.declared.fault.Fault.TheVariants.{Usage, Input, Device, NotAJournal, Full, Memory, OldVersion, OtherHistory}
use Rattle.journal_files.specs.Journals.{journal_limits, log_bytes, KeepsHistory, IsDurable}
use Rattle.journal_files.specs.Faults.{IsDeviceOf}
use Rattle.checkpoint.specs.declared.point.Point.{Point}
use Rattle.checkpoint_commands.specs.PointLogs.{IsPointLog}
use Rattle.checkpoint_commands.specs.Refusals.{IsJournalRefused, IsRefusedBehind}
use Rattle.checkpoint_commands.specs.Rooms.{PutsBehind, IsPutBehind}

-- how it ends: nothing is refused, no input is read, and no output is written
abbrev pub EndsCheckpoint : End → Type 0
EndsCheckpoint Done = Unit {0}
EndsCheckpoint Refused = ⊥
EndsCheckpoint (Unwritten Out) = ⊥
EndsCheckpoint (Unwritten Side) = ⊥
EndsCheckpoint (Unwritten Pages) = ⊥
EndsCheckpoint (Unwritten Console) = Unit {0}
EndsCheckpoint (Told Usage) = ⊥
EndsCheckpoint (Told Input) = ⊥
EndsCheckpoint (Told Device) = Unit {0}
EndsCheckpoint (Told (NotAJournal place)) = Unit {0}
EndsCheckpoint (Told Full) = Unit {0}
EndsCheckpoint (Told Memory) = Unit {0}
EndsCheckpoint (Told OldVersion) = Unit {0}
EndsCheckpoint (Told OtherHistory) = ⊥
EndsCheckpoint BroughtInPart = ⊥
EndsCheckpoint Differ = ⊥

-- What comes of POINT: it is untouched; or the journal has a history, within the room's limits, of which a checkpoint is put behind those of
-- POINT, as far as it comes, and the journal is durable.
pub data PutsHistory (journal point : List ℕ) (old new : RoomView) : Type 0 where
  Untouched : IsUntouched old new point → PutsHistory journal point old new
  Behind : (history : List Entry) → HasHistory history (log_bytes old journal) → PutsBehind history old new point → IsDurable new journal → PutsHistory journal point old new

-- A checkpoint of the journal's history is behind those of POINT, in its file and in each image, and the console is told how many entries
-- the history has, or a front of that, where it failed.
pub record IsCheckpointed (journal point : List ℕ) (o : Outcome) : Type 0 where
  pub history : List Entry
  pub has : HasHistory history (log_bytes o.old journal)
  pub within : IsWithin (journal_limits o.old) history
  pub put : IsPutBehind history o.old o.new point
  pub line : o.end ≡ Done → Appends o.told o.now (checkpoint_line (length history))
  pub front : o.end ≡ console_unwritten → WritesFront o.told o.now (checkpoint_line (length history))

-- The command `checkpoint`: a checkpoint of a journal's catalogue is put behind those of POINT, and the journal keeps its history.
pub record Checkpoints (journal point : List ℕ) (o : Outcome) : Type 0 where
  pub ends : EndsCheckpoint o.end
  pub keeps : o.old.tells ≡ true → KeepsHistory (IsDeviceOf o journal) o.old o.new journal
  -- each image of POINT has the checkpoints that it had, or the new one behind them, whatever the end is
  pub puts : o.old.tells ≡ true → PutsHistory journal point o.old o.new
  -- one that is no log of checkpoints is left alone, whatever the end is; and with a told fault but a device's POINT has nothing new
  pub alone : o.old.tells ≡ true → ((last : Option Point) → IsPointLog last (log_bytes o.old point) → ⊥)
      → KeepsHistory (IsDeviceOf o point) o.old o.new point
  pub unadded : (why : Fault) → o.end ≡ Told why → why ≢ Device → o.old.tells ≡ true → KeepsHistory ⊥ o.old o.new point
  -- a fault is told for its reason; one of the journal comes before POINT is opened
  pub told : (why : Fault) → o.end ≡ Told why → IsTold why o × (IsJournalRefused journal why o.old o.new ⊎ IsRefusedBehind journal point why o.old o.new)
  -- without one the checkpoint is there, and the journal is durable
  pub whole : TellsNoFault o.end → o.old.tells ≡ true → IsCheckpointed journal point o
  pub durable : TellsNoFault o.end → o.old.tells ≡ true → IsDurable o.new journal
  pub console : o.end ≡ console_unwritten → Rose o.faults o.faults_now
