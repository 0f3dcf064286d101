-- A checkpoint that is put behind those of a log. The rules are this project's own.
use Rattle.std.specs.Prelude.{◌≡◌, ◌≢◌, ◌⊎◌, ℕ, ◌<◌, true, List, length, Option, Some, None, is_some, Result, Err, MatchResult}
use Rattle.marc_types.specs.declared.entry.Entry.{Entry}
use Rattle.outside.specs.Disk.{DiskView}
use Rattle.outside.specs.declared.disk.Disk.{Ghosts}
use Rattle.outside.specs.Fault.{Rose}
use Rattle.commit_journal.specs.declared.format.TheConstants.{BLANK_LENGTH}
use Rattle.commit_journal.specs.declared.found.FoundLog.{FoundLog}
use Rattle.commit_journal.specs.declared.frame.Frame.{Frame}
use Rattle.commit_journal.specs.Log.{frames_of, walk_of, version_of}
use Rattle.commit_journal.specs.Journal.{EndsAt, IsFound, Unwritten}
use Rattle.commit_journal.specs.Versions.{number_of}
use Rattle.catalogue_rules.specs.Settle.{state_of}
use Rattle.durable_catalogue.specs.declared.fault.OpenFault.{OpenFault}
use Rattle.durable_catalogue.specs.declared.fault.OpenFault.TheVariants.{DeviceFault, NoMemory}
use Rattle.checkpoint.specs.Points.{IsPointOf}
use Rattle.checkpoint.specs.declared.point.Point.{Point}
use Rattle.restoring.specs.Writing.{HasPoint}
use Rattle.checkpoint_commands.specs.PointLogs.{IsPointLog, IsUntaken, IsLeftAlone}

-- An image has the frames that the log had; or these and a whole checkpoint of the state behind a history, where the log was one of
-- checkpoints. It is of the log's version, unless it is blank, and what is no log at a place is as it was, byte for byte.
pub record HasPointOrNone (history : List Entry) (log image : List ℕ) : Type 0 where
  pub frames : (frames_of image ≡ frames_of log)
      ⊎ (((last : Option Point) × IsPointLog last log) × HasPoint (length history) (state_of history) log image)
  pub version : BLANK_LENGTH < length image → version_of image ≡ version_of log
  pub lost : (place : ℕ) → frames_of log ≡ Err place → image ≡ log

-- an image has the log's frames and the checkpoint, is of version 2, and ends with its closed gate
pub record HasNewPoint (history : List Entry) (log image : List ℕ) : Type 0 where
  pub point : HasPoint (length history) (state_of history) log image
  pub newest : version_of image ≡ 2
  pub ended : EndsAt (walk_of image).place image

-- A checkpoint of a history is put behind a disk's log, as far as it comes: each image since the first sync that succeeded has the
-- frames that the log had, or the checkpoint too, and so has the content; where no sync succeeded, the content is as it was.
pub record IsAdding (history : List Entry) (old new : DiskView) : Type 0 where
  pub images : (s : ℕ) (log c : List ℕ) → new.synced old.moment ≡ Some s → old.content ≡ Some log → new.left s c → HasPointOrNone history log c
  pub content : (log c : List ℕ) → old.content ≡ Some log → new.content ≡ Some c → HasPointOrNone history log c
  pub unsynced : old.dated ≡ true → new.synced old.moment ≡ None → new.content ≡ old.content
  pub dated : new.dated ≡ old.dated
  pub tells : is_some new.content ≡ is_some old.content

-- It was put there: the log was one of checkpoints, and its content and all that a crash may leave have the new one behind them.
pub record IsAdded (history : List Entry) (old new : DiskView) : Type 0 where
  pub was : (log : List ℕ) → old.content ≡ Some log → (last : Option Point) × IsPointLog last log
  pub images : (log c : List ℕ) → old.content ≡ Some log → new.image c → HasNewPoint history log c
  pub content : (log c : List ℕ) → old.content ≡ Some log → new.content ≡ Some c → HasNewPoint history log c

-- It wasn't. The log is none of checkpoints, and every byte is as it was; or memory ran out, and the log is left alone; or a device failed,
-- whose count of faults rose.
pub record IsNotAdded (old new : DiskView) (why : OpenFault) : Type 0 where
  pub so : (log : List ℕ) → old.content ≡ Some log → IsUntaken log why
  pub kept : why ≢ DeviceFault → why ≢ NoMemory → Unwritten old new
  pub alone : why ≢ DeviceFault → IsLeftAlone old new
  pub cause : why ≡ DeviceFault → Rose old.faults new.faults

-- so it is whether a disk is answered or handed back
abbrev pub IsAddingEither : {D : Type 0} → (D → DiskView) → List Entry → D → Result D (D × OpenFault) → Type 0
IsAddingEither seen history before result = MatchResult result (λ after. IsAdding history (seen before) (seen after)) (λ e. IsAdding history (seen before) (seen e.0))

-- where a disk tells a log that is none of checkpoints
abbrev pub WhereNoPoints : DiskView → Type 0 → Type 0
WhereNoPoints old P = (log : List ℕ) → old.content ≡ Some log → ((last : Option Point) → IsPointLog last log → ⊥) → P

module _ {D : Type 0} {disk : Ghosts D} where
  -- on whatever disk a log was found
  abbrev pub WhereFound : FoundLog D disk → (D → Type 0) → Type 0
  WhereFound log P = (before : D) (frames : List Frame) → IsFound frames log.place (number_of log.version) (disk.seen before) (disk.seen log.disk) → P before

  -- and is one of checkpoints
  abbrev pub WherePoints : FoundLog D disk → (D → Type 0) → Type 0
  WherePoints log P = (before : D) (frames : List Frame) (last : Option Point) → IsFound frames log.place (number_of log.version) (disk.seen before) (disk.seen log.disk)
      → IsPointOf frames last → P before
