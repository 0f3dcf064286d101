-- What is made of a journal's entries, frame by frame. The rules are this project's own.
use Rattle.std.specs.Prelude.{◌≡◌, ℕ, List, Option, Some, None}
use Rattle.marc_types.specs.declared.entry.Entry.{Entry}
use Rattle.marc_types.specs.declared.entry.Limits.{Limits}
use Rattle.commit_journal.specs.declared.frame.Frame.{Frame}
use Rattle.entry_record.specs.History.{IsWithin, last_run}
use Rattle.entry_history.specs.Payloads.{Holds}
use Rattle.entry_history.specs.Readers.{Counted, HasExtent}
use Rattle.catalogue_core.specs.Catalogues.{Catalogued}
use Rattle.catalogue_core.specs.declared.catalogue.CoreFault.{CoreFault}
use Rattle.catalogue_core.specs.declared.catalogue.CoreFault.TheVariants as commit
use Rattle.durable_catalogue.specs.declared.fault.OpenFault.{OpenFault}
use Rattle.durable_catalogue.specs.declared.fault.OpenFault.TheVariants.{DeviceFault, NotAJournal, OldVersion, Full, NoMemory}
use Rattle.durable_catalogue.specs.Openings.{catalogue_of}

-- why a frame behind entries is not read: its payload isn't valid there
abbrev pub IsUnreadFrame : ℕ → List Entry → Frame → OpenFault → Type 0
IsUnreadFrame version before frame (NotAJournal place) =
    (frame.gate ≡ place) × ((entries : List Entry) → Holds version before entries frame.payload → ⊥)
IsUnreadFrame version before frame NoMemory = Unit {0}
IsUnreadFrame version before frame OldVersion = ⊥
IsUnreadFrame version before frame Full = ⊥
IsUnreadFrame version before frame DeviceFault = ⊥

-- so it is behind whatever entries a reader has counted
abbrev pub IsUnreadBehind : Counted → Frame → OpenFault → Type 0
IsUnreadBehind counter frame fault = (before : List Entry) → HasExtent before counter.extent → IsUnreadFrame counter.version before frame fault

-- why entries are not committed up to the last: they pass the limits
abbrev pub IsUncommitted : Limits → List Entry → CoreFault → Type 0
IsUncommitted limits entries commit.Full = IsWithin limits entries → ⊥
IsUncommitted limits entries commit.NoMemory = Unit {0}

-- what is made of entries: a catalogue of them, which are within the limits, or none, as they pass these
abbrev pub IsBuilt : Limits → List Entry → Option Catalogued → Type 0
IsBuilt limits entries (Some core) = (core ≡ catalogue_of limits entries) × IsWithin limits entries
IsBuilt limits entries None = IsWithin limits entries → ⊥

-- the same of entries that are a history, by some property, and the last of them has that run
pub record IsLoaded (IsThat : List Entry → Type 0) (limits : Limits) (core : Option Catalogued) (run : ℕ) : Type 0 where
  pub entries : List Entry
  pub history : IsThat entries
  pub built : IsBuilt limits entries core
  pub last : run ≡ last_run entries

-- a catalogue of entries that are a history, by some property, within the limits, with nothing staged, and the last of them has that run
pub record IsCatalogueOf (IsThat : List Entry → Type 0) (limits : Limits) (core : Catalogued) (run : ℕ) : Type 0 where
  pub history : IsThat core.history
  pub core_is : core ≡ catalogue_of limits core.history
  pub within : IsWithin limits core.history
  pub last : run ≡ last_run core.history
