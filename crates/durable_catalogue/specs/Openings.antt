-- Why a log is not opened, and what an opening leaves. The rules are this project's own.
use Rattle.std.specs.Prelude.{◌≡◌, ◌≢◌, ℕ, true, List, [], Some, None, is_some}
use Rattle.marc_types.specs.declared.entry.Entry.{Entry}
use Rattle.marc_types.specs.declared.entry.Limits.{Limits}
use Rattle.outside.specs.Disk.{DiskView}
use Rattle.commit_journal.specs.declared.frame.Frame.{Frame}
use Rattle.commit_journal.specs.Log.{version_of, payloads_of}
use Rattle.commit_journal.specs.Journal.{LeavesLog}
use Rattle.entry_record.specs.History.{IsWithin}
use Rattle.entry_history.specs.Frames.{IsBadFrame, IsNoJournal}
use Rattle.entry_history.specs.Payloads.{IsHistory}
use Rattle.catalogue_core.specs.Catalogues.{Catalogued}
use Rattle.durable_catalogue.specs.declared.fault.OpenFault.{OpenFault}
use Rattle.durable_catalogue.specs.declared.fault.OpenFault.TheVariants.{DeviceFault, NotAJournal, OldVersion, Full, NoMemory}
use Rattle.durable_catalogue.specs.Logs.{IsLogOf, HasHistory}

-- why frames of a version are not loaded: a payload isn't valid, the version is another, or their history passes the limits
abbrev pub IsUnloaded : ℕ → List Frame → Limits → OpenFault → Type 0
IsUnloaded version frames limits (NotAJournal place) = IsBadFrame version frames place
IsUnloaded version frames limits OldVersion = (version ≢ 2) × ((entries : List Entry) × IsHistory version [] (payloads_of frames) entries)
IsUnloaded version frames limits Full = (entries : List Entry) × IsHistory version [] (payloads_of frames) entries × (IsWithin limits entries → ⊥)
IsUnloaded version frames limits NoMemory = Unit {0}
IsUnloaded version frames limits DeviceFault = ⊥

-- what a log is that is not opened
abbrev pub IsUnopened : Limits → List ℕ → OpenFault → Type 0
IsUnopened limits log DeviceFault = Unit {0}
IsUnopened limits log (NotAJournal place) = IsNoJournal log place
IsUnopened limits log OldVersion = (version_of log ≡ 1) × ((entries : List Entry) × IsLogOf entries log)
IsUnopened limits log Full = (entries : List Entry) × IsLogOf entries log × (IsWithin limits entries → ⊥)
IsUnopened limits log NoMemory = Unit {0}

-- an opening: each image since its first sync that succeeded is the same log, and so has the history that this had; one that is no
-- journal at a place is as it was, byte for byte; where no sync succeeded, the content is as it was; whether the disk tells stays
pub record IsOpening (old new : DiskView) : Type 0 where
  pub images : (s : ℕ) (log c : List ℕ) → new.synced old.moment ≡ Some s → old.content ≡ Some log → new.left s c → LeavesLog log c
  pub unsynced : old.dated ≡ true → new.synced old.moment ≡ None → new.content ≡ old.content
  pub dated : new.dated ≡ old.dated
  pub tells : is_some new.content ≡ is_some old.content

-- where a disk tells its content, that has the history that it had
abbrev pub KeepsContent : DiskView → DiskView → Type 0
KeepsContent old new = (log c : List ℕ) (entries : List Entry) → old.content ≡ Some log → new.content ≡ Some c → HasHistory entries log → HasHistory entries c

-- a catalogue of this history, with nothing staged
abbrev pub catalogue_of : Limits → List Entry → Catalogued
catalogue_of limits entries = record { history = entries; staged = []; limits = limits }

-- why frames are not read: a payload isn't valid
abbrev pub IsUnread : ℕ → List Frame → OpenFault → Type 0
IsUnread version frames (NotAJournal place) = IsBadFrame version frames place
IsUnread version frames NoMemory = Unit {0}
IsUnread version frames OldVersion = ⊥
IsUnread version frames Full = ⊥
IsUnread version frames DeviceFault = ⊥
