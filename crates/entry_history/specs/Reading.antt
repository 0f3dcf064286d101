-- What the parts of a payload are read as.
use Rattle.std.specs.Prelude.{◌≡◌, ℕ, ◌^◌, ◌<◌, false, List, ◌∷◌, ◌++◌, length, drop, All}
use Rattle.std.specs.Int.{w32, w64, to_be_bytes}
use Rattle.std.specs.List.{flat_map}
use Rattle.marc_types.specs.Valid.{is_code}
use Rattle.marc_types.specs.declared.entry.Entry.{Entry}
use Rattle.iso2709_record.specs.Written.{record_bytes}
use Rattle.entry_history.specs.Format.{payload_head, entry_bytes}
use Rattle.entry_history.specs.Payloads.{IsEntry, IsOf, IsOld, HoldsNow, HoldsOld, old_entry_bytes}
use Rattle.entry_history.specs.declared.fault.EntryFault.{EntryFault}
use Rattle.entry_history.specs.declared.fault.EntryFault.TheVariants.{BadEntry, NoMemory}

-- bytes are an ordinal, a length, so many bytes and others
pub record IsEntryHead (bytes written : List ℕ) (ordinal : ℕ) : Type 0 where
  pub behind : List ℕ
  pub ordinal_fits : ordinal < 2 ^ 64
  pub length_fits : length written < 2 ^ 32
  pub split : bytes ≡ to_be_bytes w64 ordinal ++ (to_be_bytes w32 (length written) ++ (written ++ behind))

-- bytes begin with no entry
abbrev pub BeginWithNone : List ℕ → Type 0
BeginWithNone bytes = (e : Entry) (rest : List ℕ) → IsEntry e → entry_bytes e ++ rest ≡ bytes → ⊥

-- bytes begin with this entry, one of this run, loader and library
pub record BeginWith (run loader : ℕ) (library bytes : List ℕ) (e : Entry) (rest : List ℕ) : Type 0 where
  pub written : entry_bytes e ++ rest ≡ bytes
  pub shared : IsOf run loader library e
  pub entry_is : IsEntry e

-- no entry of this library and ordinal is written so; want of memory says nothing
abbrev pub IsNotWritten : List ℕ → ℕ → List ℕ → EntryFault → Type 0
IsNotWritten library ordinal written BadEntry =
    (e : Entry) → IsEntry e → e.library ≡ library → e.ordinal ≡ ordinal → record_bytes e.rec.leader e.rec.fields ≡ written → ⊥
IsNotWritten library ordinal written NoMemory = Unit {0}

-- bytes begin with no entry of this run, loader and library
abbrev pub IsNoEntry : ℕ → ℕ → List ℕ → List ℕ → EntryFault → Type 0
IsNoEntry run loader library bytes BadEntry = (e : Entry) (rest : List ℕ) → BeginWith run loader library bytes e rest → ⊥
IsNoEntry run loader library bytes NoMemory = Unit {0}

-- bytes are so many entries of this run, loader and library
pub record AreEntries (run loader : ℕ) (library : List ℕ) (count : ℕ) (bytes : List ℕ) (entries : List Entry) : Type 0 where
  pub written : flat_map entry_bytes entries ≡ bytes
  pub count_is : length entries ≡ count
  pub shared : All (IsOf run loader library) entries
  pub entries_are : All IsEntry entries

-- the bytes are no entries of this head, or memory ran out
abbrev pub AreNoEntries : ℕ → ℕ → List ℕ → ℕ → List ℕ → EntryFault → Type 0
AreNoEntries run loader library count bytes BadEntry = (entries : List Entry) → AreEntries run loader library count bytes entries → ⊥
AreNoEntries run loader library count bytes NoMemory = Unit {0}

-- what is read so far, and what is left: all entries that the bytes can be go on so
pub record AreReadSoFar (run loader : ℕ) (library : List ℕ) (count : ℕ) (bytes : List ℕ) (done : ℕ) (entries : List Entry) (rest : List ℕ) : Type 0 where
  pub written : flat_map entry_bytes entries ++ rest ≡ bytes
  pub count_is : length entries ≡ done
  pub shared : All (IsOf run loader library) entries
  pub entries_are : All IsEntry entries
  pub left : (all : List Entry) → AreEntries run loader library count bytes all → flat_map entry_bytes (drop done all) ≡ rest

-- a payload begins with this head
pub record HasHead (payload : List ℕ) (run loader : ℕ) (library : List ℕ) (count : ℕ) (entries : List ℕ) : Type 0 where
  pub run_fits : run < 2 ^ 64
  pub loader_fits : loader < 2 ^ 32
  pub written : payload_head run loader library count ++ entries ≡ payload

-- the payload begins with no head
abbrev pub HasNoHead : List ℕ → Type 0
HasNoHead payload = (run loader count : ℕ) (library entries : List ℕ) → HasHead payload run loader library count entries → ⊥

-- the payload holds no entries behind these; want of memory says nothing
abbrev pub HoldsNoneNow : List Entry → List ℕ → EntryFault → Type 0
HoldsNoneNow before payload BadEntry = (entries : List Entry) → HoldsNow before entries payload → ⊥
HoldsNoneNow before payload NoMemory = Unit {0}

-- a text is no library code; want of memory says nothing
abbrev pub IsNoCode : List ℕ → EntryFault → Type 0
IsNoCode bytes BadEntry = is_code bytes ≡ false
IsNoCode bytes NoMemory = Unit {0}

-- bytes are no length of one byte, or of four, with so many bytes behind it
abbrev pub IsNotCoded : List ℕ → Type 0
IsNotCoded bytes = (part rest : List ℕ) → length part ∷ (part ++ rest) ≡ bytes → ⊥

-- the bytes don't begin with a length and so many bytes
abbrev pub IsNotSized : List ℕ → Type 0
IsNotSized bytes = (part rest : List ℕ) → length part < 2 ^ 32 → to_be_bytes w32 (length part) ++ (part ++ rest) ≡ bytes → ⊥

-- bytes are a loader, an ordinal, a library code behind its length, so many bytes behind theirs, and others
pub record IsOldHead (bytes : List ℕ) (loader ordinal : ℕ) (library written rest : List ℕ) : Type 0 where
  pub loader_fits : loader < 2 ^ 32
  pub ordinal_fits : ordinal < 2 ^ 64
  pub length_fits : length written < 2 ^ 32
  pub split : bytes ≡ to_be_bytes w32 loader ++ (to_be_bytes w64 ordinal ++ (length library ∷ (library
      ++ (to_be_bytes w32 (length written) ++ (written ++ rest)))))

-- bytes begin with this entry, as version 1 writes it
pub record BeginOld (bytes : List ℕ) (e : Entry) (rest : List ℕ) : Type 0 where
  pub written : old_entry_bytes e ++ rest ≡ bytes
  pub old : IsOld e
  pub entry_is : IsEntry e

-- the bytes begin with no entry of version 1
abbrev pub BeginWithNoOld : List ℕ → Type 0
BeginWithNoOld bytes = (e : Entry) (rest : List ℕ) → BeginOld bytes e rest → ⊥

-- they begin with none, or memory ran out
abbrev pub IsNoOldEntry : List ℕ → EntryFault → Type 0
IsNoOldEntry bytes BadEntry = BeginWithNoOld bytes
IsNoOldEntry bytes NoMemory = Unit {0}

-- an entry under its own code, and written so
pub record IsOldItem (written : List ℕ) (e : Entry) : Type 0 where
  pub code : e.key.code ≡ e.library
  pub written_is : record_bytes e.rec.leader e.rec.fields ≡ written

-- bytes are so many entries, as version 1 writes them
pub record AreOld (count : ℕ) (bytes : List ℕ) (entries : List Entry) : Type 0 where
  pub written : flat_map old_entry_bytes entries ≡ bytes
  pub count_is : length entries ≡ count
  pub old : All IsOld entries
  pub entries_are : All IsEntry entries

-- the bytes are no entries of version 1, or memory ran out
abbrev pub AreNoOld : ℕ → List ℕ → EntryFault → Type 0
AreNoOld count bytes BadEntry = (entries : List Entry) → AreOld count bytes entries → ⊥
AreNoOld count bytes NoMemory = Unit {0}

-- so many entries of version 1 were read, and these bytes are left
pub record AreOldSoFar (count : ℕ) (bytes : List ℕ) (done : ℕ) (entries : List Entry) (rest : List ℕ) : Type 0 where
  pub written : flat_map old_entry_bytes entries ++ rest ≡ bytes
  pub count_is : length entries ≡ done
  pub old : All IsOld entries
  pub entries_are : All IsEntry entries
  pub left : (all : List Entry) → AreOld count bytes all → flat_map old_entry_bytes (drop done all) ≡ rest

-- the payload is of no entries of version 1, or memory ran out
abbrev pub HoldsNoneOld : List ℕ → EntryFault → Type 0
HoldsNoneOld payload BadEntry = (entries : List Entry) → HoldsOld entries payload → ⊥
HoldsNoneOld payload NoMemory = Unit {0}
