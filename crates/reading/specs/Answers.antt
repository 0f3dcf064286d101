-- What the refusals of the crate's own calls say.
use Rattle.std.specs.Prelude.{◌≡◌, ℕ, ◌*◌, ◌≤◌, true, List, ◌++◌, length, slice_get, Some}
use Rattle.std.specs.List.{list_all}
use Rattle.marc_types.specs.Valid.{is_field, fields_size}
use Rattle.iso2709_record.specs.Layout.{lengths_of}
use Rattle.marc_types.specs.declared.field.Tag.{Tag}
use Rattle.marc_types.specs.declared.field.Field.{Field}
use Rattle.marc_types.specs.declared.refusal.RecordFault.{RecordFault}
use Rattle.marc_types.specs.declared.refusal.RecordFault.TheVariants.{Refused, NoMemory}
use Rattle.marc8_latin.specs.declared.fault.Marc8Fault.{Marc8Fault}
use Rattle.iso2709_record.specs.Spelling.{IsFieldOf}
use Rattle.reading.specs.Preparing.{IsRefusedInFile}
use Rattle.reading.specs.Reading.{IsTextIn, IsFaultIn, IsFieldAt, IsTextRefusal, IsEntryFault, IsRefusedAs}

-- bytes that begin so far behind an entry's first byte have a fault, which is refused so; want of memory says nothing
abbrev pub IsRefusedText : ℕ → List ℕ → ℕ → ℕ → RecordFault → Type 0
IsRefusedText coding bytes entry start (Refused refusal) =
    (fault : Marc8Fault) × IsFaultIn coding bytes fault × IsTextRefusal entry start fault refusal
IsRefusedText coding bytes entry start NoMemory = Unit {0}

-- the fault of an entry is so, or memory ran out
abbrev pub IsRefusedEntry : List ℕ → ℕ → RecordFault → Type 0
IsRefusedEntry bytes entry (Refused refusal) = IsEntryFault bytes entry refusal
IsRefusedEntry bytes entry NoMemory = Unit {0}

-- the piece is refused so; want of memory says nothing
abbrev pub IsRefusedPiece : List ℕ → RecordFault → Type 0
IsRefusedPiece bytes (Refused refusal) = IsRefusedAs bytes refusal
IsRefusedPiece bytes NoMemory = Unit {0}

-- the piece makes no entry in a file of this library; want of memory says nothing
abbrev pub IsNotPrepared : List ℕ → List ℕ → RecordFault → Type 0
IsNotPrepared library bytes (Refused refusal) = IsRefusedInFile library bytes refusal
IsNotPrepared library bytes NoMemory = Unit {0}

-- the field is what its tag, its indicators and a text of the bytes behind them say
pub record IsFieldOfText (coding : ℕ) (tag : Tag) (indicators bytes : List ℕ) (field : Field) : Type 0 where
  pub text : List ℕ
  pub read : IsTextIn coding bytes text
  pub is : IsFieldOf tag (indicators ++ text) field

-- the fields of so many first entries, and room for them
pub record AreFieldsUpTo (bytes : List ℕ) (entries : ℕ) (fields : List Field) : Type 0 where
  pub count : length fields ≡ entries
  pub are : (entry : ℕ) (f : Field) → slice_get fields entry ≡ Some f → IsFieldAt bytes entry f
  pub valid : list_all is_field fields ≡ true
  pub size : fields_size fields ≤ 3 * lengths_of bytes entries
