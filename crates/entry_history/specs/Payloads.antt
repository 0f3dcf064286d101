-- Which payloads are valid, and the history that payloads hold. The formats are this project's own; a payload is valid where it
-- is the written form of entries that a catalogue takes.
use Rattle.std.specs.Prelude.{◌≡◌, ℕ, ◌+◌, ◌^◌, ◌<◌, ◌≤◌, List, [], ◌∷◌, ◌++◌, length, All}
use Rattle.std.specs.Int.{w32, w64, to_be_bytes}
use Rattle.std.specs.List.{flat_map}
use Rattle.marc_types.specs.declared.entry.Entry.{Entry}
use Rattle.iso2709_record.specs.Written.{record_length, record_bytes}
use Rattle.reading.specs.Reading.{IsReadAs}
use Rattle.entry_record.specs.History.{IsAdmitted, last_run}
use Rattle.entry_history.specs.Format.{payload_bytes}

-- an entry that can stand in a payload: a catalogue takes it, its numbers fit their places, and what is written of its record
-- is read as that record (which holds of each record whose texts are UTF-8)
pub record IsEntry (e : Entry) : Type 0 where
  pub admitted : IsAdmitted e
  pub run_fits : e.run < 2 ^ 64
  pub ordinal_fits : e.ordinal < 2 ^ 64
  pub loader_fits : e.loader < 2 ^ 32
  pub reads : IsReadAs (record_bytes e.rec.leader e.rec.fields) e.rec.leader e.rec.fields

-- the entry has this run, loader and library
pub record IsOf (run loader : ℕ) (library : List ℕ) (e : Entry) : Type 0 where
  pub run_is : e.run ≡ run
  pub loader_is : e.loader ≡ loader
  pub library_is : e.library ≡ library

-- the runs never fall, and each is at most one more than the number of entries before it
pub record CanFollow (before : List Entry) (run : ℕ) : Type 0 where
  pub rises : last_run before ≤ run
  pub bounded : run ≤ 1 + length before

-- 1 to 32 entries
pub record IsCount (count : ℕ) : Type 0 where
  pub some : 1 ≤ count
  pub few : count ≤ 32

-- a payload of version 2 holds these entries, behind those before it
pub record HoldsNow (before entries : List Entry) (payload : List ℕ) : Type 0 where
  pub run : ℕ
  pub loader : ℕ
  pub library : List ℕ
  pub written : payload_bytes run loader library entries ≡ payload
  pub follows : CanFollow before run
  pub count : IsCount (length entries)
  pub shared : All (IsOf run loader library) entries
  pub entries_are : All IsEntry entries

-- an entry as version 1 writes it, each with its loader and its library code
unfoldable pub old_entry_bytes : Entry → List ℕ
old_entry_bytes e =
    to_be_bytes w32 e.loader ++ to_be_bytes w64 e.ordinal ++ length e.library ∷ e.library
    ++ to_be_bytes w32 (record_length e.rec.fields) ++ record_bytes e.rec.leader e.rec.fields

-- their number, and the entries
unfoldable pub old_payload_bytes : List Entry → List ℕ
old_payload_bytes entries = length entries ∷ flat_map old_entry_bytes entries

-- version 1 knows no runs, and no library but that of the key
pub record IsOld (e : Entry) : Type 0 where
  pub run_is : e.run ≡ 0
  pub library_is : e.library ≡ e.key.code

-- a payload of version 1 holds these entries
pub record HoldsOld (entries : List Entry) (payload : List ℕ) : Type 0 where
  pub written : old_payload_bytes entries ≡ payload
  pub count : IsCount (length entries)
  pub old : All IsOld entries
  pub entries_are : All IsEntry entries

-- a payload of a version is valid behind the entries before it, and holds these
pub data Holds (version : ℕ) (before entries : List Entry) (payload : List ℕ) : Type 0 where
  Newer : version ≡ 2 → HoldsNow before entries payload → Holds version before entries payload
  Older : version ≡ 1 → HoldsOld entries payload → Holds version before entries payload

-- some entries, followed by those of payloads that are each valid behind all before it, are these
pub data IsHistory (version : ℕ) : List Entry → List (List ℕ) → List Entry → Type 0 where
  NoMore : (entries : List Entry) → IsHistory version entries [] entries
  OneMore : (before entries all : List Entry) (payload : List ℕ) (payloads : List (List ℕ))
      → Holds version before entries payload → IsHistory version (before ++ entries) payloads all
      → IsHistory version before (payload ∷ payloads) all
