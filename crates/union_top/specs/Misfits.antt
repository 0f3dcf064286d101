-- Which journals a command refuses, and with which status. The rules are this project's own.
use Rattle.std.specs.Prelude.{◌≡◌, ◌⊎◌, ℕ, List, [], ◌∷◌, ◌++◌, Option, IsSomeAnd}
use Rattle.marc_types.specs.declared.entry.Entry.{Entry}
use Rattle.marc_types.specs.declared.entry.Limits.{Limits}
use Rattle.outside.specs.Room.{RoomView}
use Rattle.commit_journal.specs.Log.{version_of}
use Rattle.command_words.specs.declared.library.Library.{Library}
use Rattle.command_words.specs.Command.{Command, Pass, Run, Load, Browse, Export, Report, Make, Verify, VerifyPoint, VerifyDigest, Matches, Holdings, Headings, Worklist, Migrate, Salvage as SalvageOf, Checkpoint, Quick, QuickReport, Read, ReadHoldings, ReadWorklist, Refused as RefusedOf, Totals as TotalsOf, Join, Split, Help, Version, libraries_of}
use Rattle.file_entries.specs.declared.refused.RefusedItem.{RefusedItem}
use Rattle.entry_record.specs.History.{IsMerged, IsWithin}
use Rattle.durable_catalogue.specs.Logs.{HasHistory}
use Rattle.journal_files.specs.Journals.{journal_limits, log_bytes, HasFittingHistory}
use Rattle.loading_commands.specs.Merged.{AreJudged}
use Rattle.sound_frames.specs.Sound.{SoundPart, IsSoundOf, IsNothing}
use Rattle.checkpoint.specs.declared.point.Point.{Point}
use Rattle.restoring.specs.Writing.{HasLast}

-- a log has no history
abbrev pub IsNoHistory : List ℕ → Type 0
IsNoHistory log = (entries : List Entry) → HasHistory entries log → ⊥

-- nothing of a damaged log is sound
pub record HasNothingSound (log : List ℕ) : Type 0 where
  pub all : SoundPart
  pub sound : IsSoundOf log all
  pub place : ℕ
  pub nothing : IsNothing all place

-- it has one, and is of that version
pub record IsOfVersion (version : ℕ) (log : List ℕ) : Type 0 where
  pub entries : List Entry
  pub has : HasHistory entries log
  pub version_is : version_of log ≡ version

-- it has one, which passes these limits
pub record IsTooLarge (limits : Limits) (log : List ℕ) : Type 0 where
  pub entries : List Entry
  pub has : HasHistory entries log
  pub passes : IsWithin limits entries → ⊥

-- the journal is of version 2, and its history would pass the room's limits with the accepted entries of the files of libraries
pub record AreTooLarge (room : RoomView) (journal : List ℕ) (libraries : List Library) : Type 0 where
  pub journal_is : IsOfVersion 2 (log_bytes room journal)
  pub pass : (added : List Entry) (accepted : List (List Entry)) (refused : List (List RefusedItem)) → AreJudged room 0 libraries accepted refused
      → IsMerged journal_is.entries accepted added → IsWithin (journal_limits room) (journal_is.entries ++ added) → ⊥

-- the log has checkpoints and nothing else, but is of version 1, behind a journal with a history, within the room's limits
pub record IsOldPoint (room : RoomView) (journal point : List ℕ) : Type 0 where
  pub history : HasFittingHistory room (log_bytes room journal)
  pub last : Option Point
  pub has : HasLast last (log_bytes room point)
  pub oldest : version_of (log_bytes room point) ≡ 1

-- the words name one file
pub record IsOneFile (words : List (List ℕ)) : Type 0 where
  pub library : Library
  pub named : libraries_of words ≡ library ∷ []

-- the journal of the command of some words has no history: the old one of `migrate`; nothing of that of `salvage` is sound
abbrev pub HasNoHistory : List (List ℕ) → Command → RoomView → Type 0
HasNoHistory words (Run journal out report files) room = IsNoHistory (log_bytes room journal)
HasNoHistory words (Load journal files) room = IsNoHistory (log_bytes room journal)
HasNoHistory words (Browse journal out report pages files) room = IsNoHistory (log_bytes room journal)
HasNoHistory words (Export journal out code) room = IsNoHistory (log_bytes room journal)
HasNoHistory words (Report journal out) room = IsNoHistory (log_bytes room journal)
HasNoHistory words (VerifyPoint journal point) room = IsSomeAnd (room.file journal) IsNoHistory
HasNoHistory words (Matches journal out) room = IsNoHistory (log_bytes room journal)
HasNoHistory words (Holdings journal out rest code) room = IsOneFile words × IsNoHistory (log_bytes room journal)
HasNoHistory words (Headings journal range out) room = IsNoHistory (log_bytes room journal)
HasNoHistory words (Worklist journal list page code) room = IsNoHistory (log_bytes room journal)
HasNoHistory words (Migrate from into) room = IsNoHistory (log_bytes room from)
HasNoHistory words (Checkpoint journal point) room = IsNoHistory (log_bytes room journal)
HasNoHistory words (Quick journal point out) room = IsNoHistory (log_bytes room journal)
HasNoHistory words (Pass out) room = ⊥
HasNoHistory words (Make seed count out) room = ⊥
HasNoHistory words (Verify journal) room = ⊥
HasNoHistory words (VerifyDigest journal count digest) room = IsSomeAnd (room.file journal) IsNoHistory
HasNoHistory words (SalvageOf journal into) room = IsSomeAnd (room.file journal) HasNothingSound
HasNoHistory words (QuickReport journal point out report) room = IsNoHistory (log_bytes room journal)
HasNoHistory words (Read look journal out) room = IsSomeAnd (room.file journal) IsNoHistory
HasNoHistory words (ReadHoldings journal out rest code) room = IsOneFile words × IsSomeAnd (room.file journal) IsNoHistory
HasNoHistory words (ReadWorklist journal list page code) room = IsSomeAnd (room.file journal) IsNoHistory
HasNoHistory words (RefusedOf out) room = ⊥
HasNoHistory words (TotalsOf first reports) room = ⊥
HasNoHistory words (Join out exports) room = ⊥
HasNoHistory words (Split count prefix files) room = ⊥
HasNoHistory words (Help topic) room = ⊥
HasNoHistory words Version room = ⊥

-- it is of version 1, where files are to be loaded into it; or of version 2, and to be brought into another; or POINT is of version 1
abbrev pub IsOfOtherVersion : Command → RoomView → Type 0
IsOfOtherVersion (Run journal out report files) room = IsOfVersion 1 (log_bytes room journal)
IsOfOtherVersion (Load journal files) room = IsOfVersion 1 (log_bytes room journal)
IsOfOtherVersion (Browse journal out report pages files) room = IsOfVersion 1 (log_bytes room journal)
IsOfOtherVersion (Headings journal range out) room = ⊥
IsOfOtherVersion (Worklist journal list page code) room = ⊥
IsOfOtherVersion (Migrate from into) room = IsOfVersion 2 (log_bytes room from) × HasFittingHistory room (log_bytes room from)
IsOfOtherVersion (Checkpoint journal point) room = IsOldPoint room journal point
IsOfOtherVersion (Quick journal point out) room = IsOldPoint room journal point
IsOfOtherVersion (Export journal out code) room = ⊥
IsOfOtherVersion (Report journal out) room = ⊥
IsOfOtherVersion (VerifyPoint journal point) room = IsOldPoint room journal point
IsOfOtherVersion (Matches journal out) room = ⊥
IsOfOtherVersion (Holdings journal out rest code) room = ⊥
IsOfOtherVersion (Pass out) room = ⊥
IsOfOtherVersion (Make seed count out) room = ⊥
IsOfOtherVersion (Verify journal) room = ⊥
IsOfOtherVersion (VerifyDigest journal count digest) room = ⊥
IsOfOtherVersion (SalvageOf journal into) room = ⊥
IsOfOtherVersion (QuickReport journal point out report) room = IsOldPoint room journal point
IsOfOtherVersion (Read look journal out) room = ⊥
IsOfOtherVersion (ReadHoldings journal out rest code) room = ⊥
IsOfOtherVersion (ReadWorklist journal list page code) room = ⊥
IsOfOtherVersion (RefusedOf out) room = ⊥
IsOfOtherVersion (TotalsOf first reports) room = ⊥
IsOfOtherVersion (Join out exports) room = ⊥
IsOfOtherVersion (Split count prefix files) room = ⊥
IsOfOtherVersion (Help topic) room = ⊥
IsOfOtherVersion Version room = ⊥

-- its history passes the room's limits, or would with that of the files
abbrev pub PassesLimits : List (List ℕ) → Command → RoomView → Type 0
PassesLimits words (Run journal out report files) room = AreTooLarge room journal (libraries_of words)
PassesLimits words (Load journal files) room = AreTooLarge room journal (libraries_of words)
PassesLimits words (Browse journal out report pages files) room = AreTooLarge room journal (libraries_of words)
PassesLimits words (Export journal out code) room = IsTooLarge (journal_limits room) (log_bytes room journal)
PassesLimits words (Report journal out) room = IsTooLarge (journal_limits room) (log_bytes room journal)
PassesLimits words (VerifyPoint journal point) room = IsSomeAnd (room.file journal) (IsTooLarge (journal_limits room))
PassesLimits words (Matches journal out) room = IsTooLarge (journal_limits room) (log_bytes room journal)
PassesLimits words (Holdings journal out rest code) room = IsOneFile words × IsTooLarge (journal_limits room) (log_bytes room journal)
PassesLimits words (Headings journal range out) room = IsTooLarge (journal_limits room) (log_bytes room journal)
PassesLimits words (Worklist journal list page code) room = IsTooLarge (journal_limits room) (log_bytes room journal)
PassesLimits words (Migrate from into) room = IsTooLarge (journal_limits room) (log_bytes room from)
PassesLimits words (Checkpoint journal point) room = IsTooLarge (journal_limits room) (log_bytes room journal)
PassesLimits words (Quick journal point out) room = IsTooLarge (journal_limits room) (log_bytes room journal)
PassesLimits words (Pass out) room = ⊥
PassesLimits words (Make seed count out) room = ⊥
PassesLimits words (Verify journal) room = ⊥
PassesLimits words (VerifyDigest journal count digest) room = ⊥
PassesLimits words (SalvageOf journal into) room = ⊥
PassesLimits words (QuickReport journal point out report) room = IsTooLarge (journal_limits room) (log_bytes room journal)
PassesLimits words (Read look journal out) room = IsSomeAnd (room.file journal) (IsTooLarge (journal_limits room))
PassesLimits words (ReadHoldings journal out rest code) room = IsOneFile words × IsSomeAnd (room.file journal) (IsTooLarge (journal_limits room))
PassesLimits words (ReadWorklist journal list page code) room = IsSomeAnd (room.file journal) (IsTooLarge (journal_limits room))
PassesLimits words (RefusedOf out) room = ⊥
PassesLimits words (TotalsOf first reports) room = ⊥
PassesLimits words (Join out exports) room = ⊥
PassesLimits words (Split count prefix files) room = ⊥
PassesLimits words (Help topic) room = ⊥
PassesLimits words Version room = ⊥

-- the status is that one, or memory ran out
abbrev pub IsStatus : ℕ → ℕ → Type 0
IsStatus due status = (status ≡ due) ⊎ (status ≡ 8)

-- The statuses of a command whose journal can't be used, in a room that was so: 6 without a history, 9 for its version, 7 for the limits.
pub record RefusesMisfits (words : List (List ℕ)) (command : Command) (room : RoomView) (status : ℕ) : Type 0 where
  pub no_history : HasNoHistory words command room → IsStatus 6 status
  pub other_version : IsOfOtherVersion command room → IsStatus 9 status
  pub limits : PassesLimits words command room → IsStatus 7 status
