-- What fits a command: what the room has before it, of its files, of its journal's history, and of its limits. The rules are this
-- project's own.
use Rattle.std.specs.Prelude.{◌≡◌, ℕ, ◌+◌, ◌≤◌, true, List, [], ◌∷◌, length, All, Option, Some, None, IsSome, IsSomeAnd}
use Rattle.std.specs.List.{sum_by}
use Rattle.marc_types.specs.declared.entry.Entry.{Entry}
use Rattle.marc_types.specs.Limits.{limits_of}
use Rattle.outside.specs.Room.{RoomView}
use Rattle.marc_stream.specs.Pieces.{items}
use Rattle.commit_journal.specs.Log.{version_of}
use Rattle.command_words.specs.declared.library.Library.{Library}
use Rattle.command_words.specs.Command.{Command, Pass, Run, Load, Browse, Export, Report, Make, Verify, VerifyPoint, VerifyDigest, Matches, Holdings, Headings, Worklist, Migrate, Salvage as SalvageOf, Checkpoint, Quick, QuickReport, Read, ReadHoldings, ReadWorklist, Refused as RefusedOf, Totals as TotalsOf, Join, Split, Help, Version, libraries_of}
use Rattle.file_entries.specs.Files.{IsJudged}
use Rattle.file_entries.specs.declared.refused.RefusedItem.{RefusedItem}
use Rattle.entry_record.specs.History.{entries_size}
use Rattle.durable_catalogue.specs.Logs.{HasHistory}
use Rattle.journal_files.specs.Journals.{journal_limits, log_bytes, HasFittingHistory}
use Rattle.journal_verification.specs.Digests.{IsDigestOf}
use Rattle.migrate_command.specs.Migrations.{IsFit}
use Rattle.sound_frames.specs.Sound.{SoundPart, IsSoundOf}
use Rattle.salvage_command.specs.Salvages.{WasFit}
use Rattle.checkpoint.specs.declared.point.Point.{Point}
use Rattle.restoring.specs.Resuming.{IsOfFront}
use Rattle.checkpoint_commands.specs.PointLogs.{IsPointLog}
use Rattle.parts_commands.specs.Exports.{ExportsDiffer}
use Rattle.parts_commands.specs.Reports.{ReportsDiffer}
use Rattle.split_command.specs.Names.{split_names}
use Rattle.plain_commands.specs.Totals.{IsWithinLimits}
use Rattle.loading_commands.specs.Merged.{AreJudged}

-- the file is there, and its accepted entries are within the room's limits
pub record FitsAlone (room : RoomView) (library : Library) : Type 0 where
  pub bytes : List ℕ
  pub there : room.file library.file ≡ Some bytes
  pub within : (accepted : List Entry) (refused : List RefusedItem) → IsJudged library.code 0 (items bytes) accepted refused → IsWithinLimits (limits_of room.is_large) accepted

-- The journal has a history and is of version 2, as a blank log and none are; the files are there; and the history and all accepted
-- entries are together within the room's limits, by their number and by their size.
pub record FitsTogether (room : RoomView) (journal : List ℕ) (libraries : List Library) : Type 0 where
  pub before : List Entry
  pub was : HasHistory before (log_bytes room journal)
  pub version : version_of (log_bytes room journal) ≡ 2
  pub there : All (λ library. IsSome (room.file library.file)) libraries
  pub count : (accepted : List (List Entry)) (refused : List (List RefusedItem)) → AreJudged room 0 libraries accepted refused
      → length before + sum_by length accepted ≤ (journal_limits room).entries
  pub size : (accepted : List (List Entry)) (refused : List (List RefusedItem)) → AreJudged room 0 libraries accepted refused
      → entries_size before + sum_by entries_size accepted ≤ (journal_limits room).bytes

-- a pass of one file, in a room that tells its files
pub record FitsPass (room : RoomView) (libraries : List Library) : Type 0 where
  pub tells : room.tells ≡ true
  pub library : Library
  pub named : libraries ≡ library ∷ []
  pub alone : FitsAlone room library

-- a loading of files, in a room that tells its files
pub record FitsLoad (room : RoomView) (journal : List ℕ) (libraries : List Library) : Type 0 where
  pub tells : room.tells ≡ true
  pub together : FitsTogether room journal libraries

-- an export, a report, a match report or a worklist, in a room that tells its files
pub record FitsReading (room : RoomView) (journal : List ℕ) : Type 0 where
  pub tells : room.tells ≡ true
  pub history : HasFittingHistory room (log_bytes room journal)

-- the writing of a journal's records with the holdings of one file, in a room that tells its files
pub record FitsHoldings (room : RoomView) (journal : List ℕ) (libraries : List Library) : Type 0 where
  pub reading : FitsReading room journal
  pub library : Library
  pub named : libraries ≡ library ∷ []

-- the verifying of a journal, in a room that tells its files
pub record FitsVerify (room : RoomView) (journal : List ℕ) : Type 0 where
  pub tells : room.tells ≡ true
  pub bytes : List ℕ
  pub entries : List Entry
  pub there : room.file journal ≡ Some bytes
  pub was : HasHistory entries bytes

-- the verifying of a digest of a journal's first so many entries, in a room that tells its files: the journal is there, and that is its digest
pub record FitsVerifyDigest (room : RoomView) (journal : List ℕ) (count : ℕ) (digits : List ℕ) : Type 0 where
  pub verify : FitsVerify room journal
  pub own : IsDigestOf count digits verify.bytes

-- a look into a journal that isn't held, in a room that tells its files: it is there, with a history within its limits
pub record FitsLook (room : RoomView) (journal : List ℕ) : Type 0 where
  pub tells : room.tells ≡ true
  pub bytes : List ℕ
  pub there : room.file journal ≡ Some bytes
  pub history : HasFittingHistory room bytes

-- the same with the holdings of one file
pub record FitsUnheld (room : RoomView) (journal : List ℕ) (libraries : List Library) : Type 0 where
  pub look : FitsLook room journal
  pub library : Library
  pub named : libraries ≡ library ∷ []

-- the bringing of a journal's history into another one, in a room that tells its files: the old one is of version 1, and the new one,
-- which may be blank or none, is fit for its history
pub record FitsMigrate (room : RoomView) (from into : List ℕ) : Type 0 where
  pub tells : room.tells ≡ true
  pub history : List Entry
  pub entries : List Entry
  pub was : HasHistory history (log_bytes room from)
  pub version : version_of (log_bytes room from) ≡ 1
  pub fits : ∥ IsFit (journal_limits room) history entries (log_bytes room into) ∥₁

-- the bringing of what is sound of a damaged journal into another one, in a room that tells its files: the damaged one is there, with
-- something sound, within the limits, and the new one, which may be blank or none, is fit for it
pub record FitsSalvage (room : RoomView) (journal into : List ℕ) : Type 0 where
  pub tells : room.tells ≡ true
  pub bytes : List ℕ
  pub there : room.file journal ≡ Some bytes
  pub all : SoundPart
  pub sound : IsSoundOf bytes all
  pub fit : WasFit room all into

-- a journal and a log of checkpoints, in a room that tells its files: that has checkpoints and nothing else, and is of version 2, as a
-- blank log and none are
pub record FitsPoint (room : RoomView) (journal point : List ℕ) : Type 0 where
  pub reading : FitsReading room journal
  pub last : Option Point
  pub is : IsPointLog last (log_bytes room point)

-- a journal and a log of checkpoints that are inputs, in a room that tells its files: both are there, the one with a history within the
-- limits, and the last whole checkpoint of the other is of a front of it
pub record FitsVerifyPoint (room : RoomView) (journal point : List ℕ) : Type 0 where
  pub look : FitsLook room journal
  pub point_bytes : List ℕ
  pub point_there : room.file point ≡ Some point_bytes
  pub last : Option Point
  pub is : IsPointLog last point_bytes
  pub own : (history : List Entry) (found : Option Point) → HasHistory history look.bytes → IsPointLog found point_bytes
      → IsSomeAnd found (IsOfFront history)

-- the joining of reports, in a room that tells its files: none of them differs from what a part's report has
pub record FitsTotals (room : RoomView) (first : List ℕ) (reports : List (List ℕ)) : Type 0 where
  pub tells : room.tells ≡ true
  pub can : (place : ℕ) (name : List ℕ) → ReportsDiffer room.file first reports place name → ⊥

-- the joining of exports, in a room that tells its files: none of them differs from what a part's export has behind the others
pub record FitsJoin (room : RoomView) (exports : List (List ℕ)) : Type 0 where
  pub tells : room.tells ≡ true
  pub can : (place : ℕ) (name : List ℕ) → ExportsDiffer room.file exports place name → ⊥

-- the cutting of files into so many parts, in a room that tells its files: none of the outputs is there
pub record FitsSplit (room : RoomView) (count : ℕ) (prefix : List ℕ) (libraries : List Library) : Type 0 where
  pub tells : room.tells ≡ true
  pub free : All (λ name. room.file name ≡ None) (split_names prefix count (length libraries))

-- the command of some words: `make`, `help` and `version` fit any room
abbrev pub Fits : List (List ℕ) → Command → RoomView → Type 0
Fits words (Pass out) room = FitsPass room (libraries_of words)
Fits words (Run journal out report files) room = FitsLoad room journal (libraries_of words)
Fits words (Load journal files) room = FitsLoad room journal (libraries_of words)
Fits words (Browse journal out report pages files) room = FitsLoad room journal (libraries_of words)
Fits words (Export journal out code) room = FitsReading room journal
Fits words (Report journal out) room = FitsReading room journal
Fits words (Make seed count out) room = Unit {0}
Fits words (Verify journal) room = FitsVerify room journal
Fits words (VerifyPoint journal point) room = FitsVerifyPoint room journal point
Fits words (VerifyDigest journal count digest) room = FitsVerifyDigest room journal count digest
Fits words (Matches journal out) room = FitsReading room journal
Fits words (Holdings journal out rest code) room = FitsHoldings room journal (libraries_of words)
Fits words (Headings journal range out) room = FitsReading room journal
Fits words (Worklist journal list page code) room = FitsReading room journal
Fits words (Migrate from into) room = FitsMigrate room from into
Fits words (SalvageOf journal into) room = FitsSalvage room journal into
Fits words (Checkpoint journal point) room = FitsPoint room journal point
Fits words (Quick journal point out) room = FitsPoint room journal point
Fits words (QuickReport journal point out report) room = FitsPoint room journal point
Fits words (Read look journal out) room = FitsLook room journal
Fits words (ReadHoldings journal out rest code) room = FitsUnheld room journal (libraries_of words)
Fits words (ReadWorklist journal list page code) room = FitsLook room journal
Fits words (RefusedOf out) room = FitsPass room (libraries_of words)
Fits words (TotalsOf first reports) room = FitsTotals room first reports
Fits words (Join out exports) room = FitsJoin room exports
Fits words (Split count prefix files) room = FitsSplit room count prefix (libraries_of words)
Fits words (Help topic) room = Unit {0}
Fits words Version room = Unit {0}
