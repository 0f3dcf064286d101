-- A checkpoint that is written to a log of checkpoints. The rules are this project's own.
use Rattle.std.specs.Prelude.{◌≡◌, ◌⊎◌, ℕ, ◌+◌, ◌≤◌, List, length, map, Option, Some, Ok}
use Rattle.marc_types.specs.declared.entry.Entry.{Entry}
use Rattle.outside.specs.Disk.{DiskView, LeavesOnly}
use Rattle.catalogue_rules.specs.Settle.{state_of}
use Rattle.catalogue_rules.specs.State.{State}
use Rattle.kept_rows.specs.Rows.{state_of_rows}
use Rattle.commit_journal.specs.Log.{frames_of, version_of, payloads_of}
use Rattle.commit_journal.specs.Journal.{and_frames, frames_len}
use Rattle.commit_journal.specs.declared.frame.Frame.{Frame}
use Rattle.checkpoint.specs.Format.{part_bytes}
use Rattle.checkpoint.specs.Parts.{ArePartsOf}
use Rattle.checkpoint.specs.Points.{IsSnapshot, IsPointOf}
use Rattle.checkpoint.specs.declared.part.Part.{Part}
use Rattle.checkpoint.specs.declared.point.Point.{Point}

-- an image has the log's frames, and behind them those of a whole checkpoint of a state behind so many entries
pub record HasPoint (entries : ℕ) (s : State) (log image : List ℕ) : Type 0 where
  pub more : List Frame
  pub parts : List Part
  pub are : ArePartsOf (payloads_of more) parts
  pub snapshot : IsSnapshot entries s parts
  pub frames : frames_of image ≡ and_frames (frames_of log) more

-- an image is no longer than the log, or than the log with the frames of such a checkpoint
abbrev pub IsNoLonger : ℕ → State → List ℕ → List ℕ → Type 0
IsNoLonger entries s log image =
    (length image ≤ length log)
    ⊎ ((parts : List Part) × IsSnapshot entries s parts × (length image ≤ length log + frames_len (map part_bytes parts)))

-- an image of the log's version has the log's frames as they were, or with a whole checkpoint behind them
pub record HasPointOrNot (entries : ℕ) (s : State) (log image : List ℕ) : Type 0 where
  pub frames : (frames_of image ≡ frames_of log) ⊎ HasPoint entries s log image
  pub version : version_of image ≡ version_of log
  pub no_longer : IsNoLonger entries s log image

-- the log is one of checkpoints, and this is its last whole one
pub record HasLast (last : Option Point) (log : List ℕ) : Type 0 where
  pub frames : List Frame
  pub frames_are : frames_of log ≡ Ok frames
  pub is : IsPointOf frames last

-- the last whole checkpoint of a log is of that state, behind so many entries
pub record HasNewLast (entries : ℕ) (s : State) (log : List ℕ) : Type 0 where
  pub point : Point
  pub entries_are : point.entries ≡ entries
  pub state_is : state_of_rows point.rows ≡ s
  pub last : HasLast (Some point) log

-- the last whole checkpoint is the one that was it, or one of that state behind so many entries
abbrev pub HasOldOrNewLast : ℕ → State → Option Point → List ℕ → Type 0
HasOldOrNewLast entries s last image = HasLast last image ⊎ HasNewLast entries s image

-- Each image at each moment of a call has the log's frames as they were, or with a whole checkpoint of the history's state behind them.
abbrev pub LeavesPoint : List Entry → DiskView → DiskView → Type 0
LeavesPoint history old new =
    (log : List ℕ) → old.content ≡ Some log → LeavesOnly old new (HasPointOrNot (length history) (state_of history) log)

-- the content has the log's frames, and behind them those of a whole checkpoint of the history's state
abbrev pub AppendsPoint : List Entry → DiskView → DiskView → Type 0
AppendsPoint history old new =
    (log image : List ℕ) → old.content ≡ Some log → new.content ≡ Some image → HasPoint (length history) (state_of history) log image

-- Of a log of checkpoints each image at each moment of a call has the last one that it had, or one of the history's state.
abbrev pub LeavesLast : List Entry → DiskView → DiskView → Type 0
LeavesLast history old new =
    (log : List ℕ) (last : Option Point) → old.content ≡ Some log → HasLast last log
    → LeavesOnly old new (HasOldOrNewLast (length history) (state_of history) last)
