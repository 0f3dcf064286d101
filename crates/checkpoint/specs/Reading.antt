-- What the parts of a payload are read as.
use Rattle.std.specs.Prelude.{◌≡◌, ℕ, ◌^◌, ◌<◌, false, Bool, List, ◌++◌, length, All, Option, is_some, IfSome}
use Rattle.std.specs.List.{flat_map}
use Rattle.marc_types.specs.declared.key.Class.{Class}
use Rattle.marc_types.specs.declared.key.Key.{Key}
use Rattle.marc_types.specs.declared.entry.Tie.{Tie}
use Rattle.marc_types.specs.declared.record.Record.{Record}
use Rattle.iso2709_record.specs.Written.{record_bytes}
use Rattle.entry_record.specs.Authority.{is_valid_key}
use Rattle.kept_rows.specs.declared.row.KeptRow.{KeptRow}
use Rattle.checkpoint.specs.Format.{tie_bytes, row_bytes, head_bytes, coded, sized}
use Rattle.checkpoint.specs.Parts.{IsProperKey, IsProperTie, IsWritable, IsKeptRow, IsPartOf}
use Rattle.checkpoint.specs.declared.part.Part.{Part}
use Rattle.checkpoint.specs.declared.fault.PartFault.{PartFault}
use Rattle.checkpoint.specs.declared.fault.PartFault.TheVariants.{BadPart, NoMemory}

-- bytes are no length of one byte, or of four, with so many bytes behind it
abbrev pub AreNotCoded : List ℕ → Type 0
AreNotCoded bytes = (part rest : List ℕ) → coded part ++ rest ≡ bytes → ⊥

-- the bytes don't begin with a length and so many bytes
abbrev pub AreNotSized : List ℕ → Type 0
AreNotSized bytes = (part rest : List ℕ) → length part < 2 ^ 32 → sized part ++ rest ≡ bytes → ⊥

-- there is a key, or there is none
pub record IsOptionalKey (there : Bool) (key : Option Key) : Type 0 where
  pub there_is : is_some key ≡ there
  pub proper : IfSome key IsProperKey

-- so many ties
abbrev pub ties_bytes : List Tie → List ℕ
ties_bytes ties = flat_map tie_bytes ties

-- so many ties, whose keys are proper
pub record AreProperTies (count : ℕ) (ties : List Tie) : Type 0 where
  pub count_is : length ties ≡ count
  pub proper : All IsProperTie ties

-- bytes have this head, a written record of less than 2^32 bytes in it, and others behind it
pub record HaveHead (bytes : List ℕ) (class : Class) (code written rest : List ℕ) : Type 0 where
  pub split : head_bytes class code written ++ rest ≡ bytes
  pub length_fits : length written < 2 ^ 32

-- the bytes begin with no head of a row
abbrev pub HaveNoHead : List ℕ → Type 0
HaveNoHead bytes = (class : Class) (code written rest : List ℕ) → HaveHead bytes class code written rest → ⊥

-- the bytes are the written form of that record
pub record IsWrittenOf (written : List ℕ) (rec : Record) : Type 0 where
  pub bytes : record_bytes rec.leader rec.fields ≡ written
  pub writable : IsWritable rec

-- they are that of no record; want of memory says nothing
abbrev pub IsOfNoRecord : List ℕ → PartFault → Type 0
IsOfNoRecord written BadPart = (rec : Record) → IsWrittenOf written rec → ⊥
IsOfNoRecord written NoMemory = Unit {0}

-- code and number make no proper key
abbrev pub IsNoKey : List ℕ → List ℕ → PartFault → Type 0
IsNoKey code number BadPart = is_valid_key (record { code = code; number = number }) ≡ false
IsNoKey code number NoMemory = Unit {0}

-- bytes are these kept records
pub record AreRows (bytes : List ℕ) (rows : List KeptRow) : Type 0 where
  pub written : flat_map row_bytes rows ≡ bytes
  pub can_be : All IsKeptRow rows

-- the bytes are no rows, or memory ran out
abbrev pub AreNoRows : List ℕ → PartFault → Type 0
AreNoRows bytes BadPart = (rows : List KeptRow) → AreRows bytes rows → ⊥
AreNoRows bytes NoMemory = Unit {0}

-- the payload is no part; want of memory says nothing
abbrev pub IsNoPart : List ℕ → PartFault → Type 0
IsNoPart payload BadPart = (part : Part) → IsPartOf payload part → ⊥
IsNoPart payload NoMemory = Unit {0}
