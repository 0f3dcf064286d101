-- A checkpoint that is put behind those of a room's log. The rules are this project's own.
use Rattle.std.specs.Prelude.{◌≡◌, ℕ, true, List, Option, Some, None}
use Rattle.marc_types.specs.declared.entry.Entry.{Entry}
use Rattle.outside.specs.Room.{RoomView, IsUntouched}
use Rattle.checkpoint.specs.declared.point.Point.{Point}
use Rattle.journal_files.specs.Journals.{log_bytes}
use Rattle.checkpoint_commands.specs.PointLogs.{IsPointLog}
use Rattle.checkpoint_commands.specs.Adding.{HasPointOrNone, HasNewPoint}

-- A checkpoint of a history is put behind the log of that name, as far as it comes. The log was not opened, and is as it was; or it is a
-- closed log again: each image since its first sync has the frames that it had, or the checkpoint too, and so has the file; of a log that
-- tells its moments and has not synced the file is as it was.
pub data PutsBehind (history : List Entry) (old new : RoomView) (name : List ℕ) : Type 0 where
  Unopened : IsUntouched old new name → PutsBehind history old new name
  Opened : new.has_log name ≡ true
      → ((s : ℕ) (c : List ℕ) → (new.log name).synced 0 ≡ Some s → (new.log name).left s c → HasPointOrNone history (log_bytes old name) c)
      → HasPointOrNone history (log_bytes old name) (log_bytes new name)
      → ((new.log name).dated ≡ true → (new.log name).synced 0 ≡ None → log_bytes new name ≡ log_bytes old name)
      → PutsBehind history old new name

-- It was put there: the log was one of checkpoints, and its file and all that a crash may leave of it have the new one behind them.
pub record IsPutBehind (history : List Entry) (old new : RoomView) (name : List ℕ) : Type 0 where
  pub last : Option Point
  pub was : IsPointLog last (log_bytes old name)
  pub file : HasNewPoint history (log_bytes old name) (log_bytes new name)
  pub is_log : new.has_log name ≡ true
  pub images : (c : List ℕ) → (new.log name).image c → HasNewPoint history (log_bytes old name) c
