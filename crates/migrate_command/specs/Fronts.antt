-- What a journal has of a history already, and how it gains the rest.
use Rattle.std.specs.Prelude.{◌≡◌, ◌≢◌, ◌⊎◌, ℕ, ◌+◌, ◌≤◌, List, [], ◌∷◌, ◌++◌, length, take, drop, Some}
use Rattle.marc_types.specs.declared.entry.Entry.{Entry}
use Rattle.marc_types.specs.declared.entry.Limits.{Limits}
use Rattle.outside.specs.Disk.{DiskView, LeavesOnly}
use Rattle.commit_journal.specs.declared.frame.Frame.{Frame}
use Rattle.commit_journal.specs.Log.{version_of, payloads_of}
use Rattle.commit_journal.specs.Journal.{IsFound}
use Rattle.entry_record.specs.History.{IsWithin}
use Rattle.entry_history.specs.Alone.{IsPayload}
use Rattle.entry_history.specs.Payloads.{CanFollow, IsHistory}
use Rattle.durable_catalogue.specs.Logs.{IsLogOf, HasHistory}
use Rattle.durable_catalogue.specs.Images.{framed_lengths}
use Rattle.entry_history.specs.Frames.{IsBadFrame}
use Rattle.migrate_command.specs.Migrations.{Begins, AreWithin, IsAmid}
use Rattle.migrate_command.specs.declared.fault.MigrateFault.{MigrateFault}
use Rattle.migrate_command.specs.declared.fault.MigrateFault.TheVariants.{DeviceFault, NotAJournal, OldVersion, Full, NotPrefix, NoMemory}

-- each entry's run can follow the entries before it
abbrev pub EachFollows : List Entry → List Entry → Type 0
EachFollows before [] = Unit {0}
EachFollows before (e ∷ es) = CanFollow before e.run × EachFollows (before ++ e ∷ []) es

-- the frames of a journal hold the first entries of a history, so many; both are within the limits
pub record HoldsFront (version : ℕ) (frames : List Frame) (limits : Limits) (history : List Entry) (count : ℕ) : Type 0 where
  pub entries : List Entry
  pub holds : IsHistory version [] (payloads_of frames) entries
  pub within : AreWithin limits history entries
  pub front : entries ≡ take count history
  pub most : count ≤ length history

-- these are the payloads of these entries, each of which can stand in one alone
abbrev pub ArePayloads : List Entry → List (List ℕ) → Type 0
ArePayloads [] [] = Unit {0}
ArePayloads [] (payload ∷ payloads) = ⊥
ArePayloads (e ∷ entries) [] = ⊥
ArePayloads (e ∷ entries) (payload ∷ payloads) = IsPayload e payload × ArePayloads entries payloads

-- these are the payloads of what a history has behind its first entries, so many
pub record AreRest (history : List Entry) (count : ℕ) (payloads : List (List ℕ)) : Type 0 where
  pub most : count ≤ length history
  pub are : ArePayloads (drop count history) payloads

-- the frames of a journal hold the first entries of a history, and these are the payloads of the rest
pub record HoldsBut (version : ℕ) (frames : List Frame) (limits : Limits) (history : List Entry) (payloads : List (List ℕ)) : Type 0 where
  pub count : ℕ
  pub front : HoldsFront version frames limits history count
  pub rest : AreRest history count payloads

-- A log of the newest version was found, its frames hold the first entries of a history, and these are the payloads of the rest.
pub record FindsRest (limits : Limits) (history : List Entry) (payloads : List (List ℕ)) (place version : ℕ) (old new : DiskView) : Type 0 where
  pub frames : List Frame
  pub found : IsFound frames place version old new
  pub newest : version ≡ 2
  pub holds : HoldsBut version frames limits history payloads

-- why the frames of a journal hold no front of a history, or one that may not be longer
abbrev pub HoldNoFront : ℕ → List Frame → Limits → List Entry → MigrateFault → Type 0
HoldNoFront version frames limits history (NotAJournal place) = IsBadFrame version frames place
HoldNoFront version frames limits history OldVersion = (version ≢ 2) × ((entries : List Entry) × IsHistory version [] (payloads_of frames) entries)
HoldNoFront version frames limits history Full =
    (version ≡ 2) × ((entries : List Entry) × IsHistory version [] (payloads_of frames) entries × (IsWithin limits entries → ⊥))
HoldNoFront version frames limits history NotPrefix =
    (version ≡ 2) × ((entries : List Entry) × IsHistory version [] (payloads_of frames) entries × AreWithin limits history entries × (Begins history entries → ⊥))
HoldNoFront version frames limits history NoMemory = Unit {0}
HoldNoFront version frames limits history DeviceFault = Unit {0}

-- a journal of these entries may gain what the history has behind them
pub record MayGain (version : ℕ) (limits : Limits) (history entries : List Entry) : Type 0 where
  pub newest : version ≡ 2
  pub within : AreWithin limits history entries
  pub begins : Begins history entries

-- each image since a moment is one that there was, or has these entries or, where it may have more, a front of the rest of the history
pub record Extends (may : Type 0) (history entries : List Entry) (log : List ℕ) (old new : DiskView) : Type 0 where
  pub since : (t : ℕ) (c : List ℕ) → t ≤ old.moment → new.left t c → old.left t c ⊎ ∥ IsAmid may history entries log c ∥₁
  pub now : (c : List ℕ) → new.image c → ∥ IsAmid may history entries log c ∥₁

-- so it is where the disk tells a log of these entries, and the runs of the history are in order
abbrev pub Brings : Type 0 → List Entry → List Entry → DiskView → DiskView → Type 0
Brings may history entries old new = (log : List ℕ) → old.content ≡ Some log → HasHistory entries log → EachFollows [] history
    → Extends may history entries log old new

-- the entries are a front of the history, and no more is asked
abbrev pub BringsRest : List Entry → ℕ → DiskView → DiskView → Type 0
BringsRest history count old new = Brings (Unit {0}) history (take count history) old new

-- a log has these entries now, and is longer than it was, of some entries, by a frame for each that is new at most
pub record HasGained (entries these : List Entry) (log now : List ℕ) : Type 0 where
  pub has : HasHistory these now
  pub no_longer : length now + framed_lengths entries ≤ length log + framed_lengths these

-- where the disk told a log of some entries, it tells one of these
abbrev pub HasBrought : List Entry → List Entry → List Entry → DiskView → DiskView → Type 0
HasBrought history entries these old new = (log now : List ℕ) → old.content ≡ Some log → HasHistory entries log → EachFollows [] history
    → new.content ≡ Some now → HasGained entries these log now

-- the same of a history with its first entries, so many
abbrev pub HasBroughtRest : List Entry → ℕ → DiskView → DiskView → Type 0
HasBroughtRest history count old new = HasBrought history (take count history) history old new

-- an image has these entries, or these and more, is of the newest version, and no longer than the log with a frame for each of those
pub record HasMoreOrNot (before more : List Entry) (log image : List ℕ) : Type 0 where
  pub has : ∥ IsLogOf before image ⊎ IsLogOf (before ++ more) image ∥₁
  pub newest : version_of image ≡ 2
  pub no_longer : length image ≤ length log + framed_lengths more

-- entries are tried behind those of a log: a crash leaves these, or these and all of them
abbrev pub TriesEntries : List Entry → DiskView → DiskView → Type 0
TriesEntries more old new = (log : List ℕ) (before : List Entry) → old.content ≡ Some log → HasHistory before log → EachFollows before more
    → LeavesOnly old new (HasMoreOrNot before more log)

-- they are there
abbrev pub AddsEntries : List Entry → DiskView → DiskView → Type 0
AddsEntries more old new = (log now : List ℕ) (before : List Entry) → old.content ≡ Some log → HasHistory before log → EachFollows before more
    → new.content ≡ Some now → HasGained before (before ++ more) log now
