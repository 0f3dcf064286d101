-- What a reader of payloads has taken.
use Rattle.std.specs.Prelude.{◌≡◌, ℕ, ◌≤◌, List, ◌++◌, length}
use Rattle.marc_types.specs.declared.entry.Entry.{Entry}
use Rattle.entry_record.specs.History.{last_run}
use Rattle.entry_history.specs.Payloads.{Holds}
use Rattle.entry_history.specs.declared.extent.Extent.{Extent}
use Rattle.entry_history.specs.declared.fault.EntryFault.{EntryFault}
use Rattle.entry_history.specs.declared.fault.EntryFault.TheVariants.{BadEntry, NoMemory}

-- there are two versions
pub record IsVersion (version : ℕ) : Type 0 where
  pub first : 1 ≤ version
  pub last : version ≤ 2

-- the version of the payloads, and the entries of those that were taken
pub record Taken : Type 0 where
  pub version : ℕ
  pub entries : List Entry

-- what was taken, and these entries behind it
abbrev pub with_entries : Taken → List Entry → Taken
with_entries taken entries = record { version = taken.version; entries = taken.entries ++ entries }

-- a valid payload is taken: its entries come behind those that were taken
pub record Takes (old : Taken) (payload : List ℕ) (new : Taken) : Type 0 where
  pub entries : List Entry
  pub holds : Holds old.version old.entries entries payload
  pub new_is : new ≡ with_entries old entries

-- the payload isn't valid behind those entries; want of memory says nothing
abbrev pub HoldsNone : ℕ → List Entry → List ℕ → EntryFault → Type 0
HoldsNone version before payload BadEntry = (entries : List Entry) → Holds version before entries payload → ⊥
HoldsNone version before payload NoMemory = Unit {0}

-- so many entries there are, and the last of them has this run
pub record HasExtent (entries : List Entry) (extent : Extent) : Type 0 where
  pub count_is : extent.count ≡ length entries
  pub last_is : extent.last_run ≡ last_run entries

-- the version of the payloads, and how far the entries go of those that were taken
pub record Counted : Type 0 where
  pub version : ℕ
  pub extent : Extent

-- a valid payload is taken behind some entries, it holds these, and they are counted
pub record CountsEntries (old : Counted) (before entries : List Entry) (payload : List ℕ) (new : Counted) : Type 0 where
  pub holds : Holds old.version before entries payload
  pub extent : HasExtent (before ++ entries) new.extent
