-- How a piece of a file is read as a record, and when it is refused. Source: MARC 21 Specifications for Record Structure,
-- Character Sets, and Exchange Media (leader 09: a blank is MARC-8, `a` is UTF-8). Entries and offsets count from 0.
use Rattle.std.specs.Prelude.{◌≡◌, ℕ, ◌+◌, ◌<◌, ◌==◌, Bool, true, false, ◌||◌, List, length, take, drop, ◌++◌, slice_get, Some, if◌then◌else◌}
use Rattle.std.specs.Str.{IsUtf8}
use Rattle.std.specs.Str.Lossy.{utf8_valid_len}
use Rattle.marc_types.specs.Valid.{is_control_tag}
use Rattle.marc_types.specs.declared.field.Leader.{Leader}
use Rattle.marc_types.specs.declared.field.Field.{Field}
use Rattle.marc_types.specs.declared.refusal.Refusal.{Refusal}
use Rattle.marc_types.specs.declared.refusal.Refusal.TheVariants.{UnknownCoding, BadText, OtherSet}
use Rattle.iso2709_record.specs.Spelling.{IsFieldOf}
use Rattle.iso2709_record.specs.Layout.{entry_count, tag_at, data_at}
use Rattle.iso2709_record.specs.Raw.{leader_at, coding_at}
use Rattle.iso2709_record.specs.Faults.{IsSound, IsFirstFault}
use Rattle.marc8_latin.specs.Text.{IsText, IsFault}
use Rattle.marc8_latin.specs.declared.fault.Marc8Fault.{Marc8Fault}
use Rattle.marc8_latin.specs.declared.fault.Marc8Fault.TheVariants.{BadByte, NoMemory}
use Rattle.marc8_latin.specs.declared.fault.Marc8Fault.TheVariants as marc8

-- leader byte 09 is a blank
abbrev pub is_marc8 : ℕ → Bool
is_marc8 coding = coding == 0x20

-- a blank or `a`
abbrev pub is_known_coding : ℕ → Bool
is_known_coding coding = is_marc8 coding || (coding == 0x61)

-- the text of a field is all of a control field, and what stands behind the indicators of any other
abbrev pub text_start : List ℕ → ℕ → ℕ
text_start bytes entry = if is_control_tag (tag_at bytes entry) then 0 else 2

-- what stands before the text
abbrev pub indicators_at : List ℕ → ℕ → List ℕ
indicators_at bytes entry = take (text_start bytes entry) (data_at bytes entry)

-- the bytes of an entry's text
abbrev pub text_at : List ℕ → ℕ → List ℕ
text_at bytes entry = drop (text_start bytes entry) (data_at bytes entry)

-- the text that bytes are in MARC-8, or in UTF-8
pub data IsTextIn : ℕ → List ℕ → List ℕ → Type 0 where
  InMarc8 : (coding : ℕ) (bytes text : List ℕ) → is_marc8 coding ≡ true → IsText bytes text → IsTextIn coding bytes text
  InUtf8 : (coding : ℕ) (bytes : List ℕ) → is_marc8 coding ≡ false → IsUtf8 bytes → IsTextIn coding bytes bytes

-- the first fault of a text in MARC-8; in UTF-8 it is the first byte of the first malformed sequence
pub data IsFaultIn : ℕ → List ℕ → Marc8Fault → Type 0 where
  OfMarc8 : (coding : ℕ) (bytes : List ℕ) (fault : Marc8Fault) → is_marc8 coding ≡ true → IsFault bytes fault → IsFaultIn coding bytes fault
  OfUtf8 : (coding : ℕ) (bytes : List ℕ) → is_marc8 coding ≡ false → ¬ IsUtf8 bytes → IsFaultIn coding bytes (BadByte (utf8_valid_len bytes))

-- a field of a record and the entry that it was read from: the field with its tag, its indicators and the text
pub record IsFieldAt (bytes : List ℕ) (entry : ℕ) (f : Field) : Type 0 where
  pub text : List ℕ
  pub read : IsTextIn (coding_at bytes) (text_at bytes entry) text
  pub is : IsFieldOf (tag_at bytes entry) (indicators_at bytes entry ++ text) f

-- the piece is this record: nothing refuses it, and its fields are those of its entries, in their order
pub record IsReadAs (bytes : List ℕ) (leader : Leader) (fields : List Field) : Type 0 where
  pub sound : IsSound bytes
  pub coding : is_known_coding (coding_at bytes) ≡ true
  pub leader_is : leader ≡ leader_at bytes
  pub count : length fields ≡ entry_count bytes
  pub fields_are : (entry : ℕ) (f : Field) → slice_get fields entry ≡ Some f → IsFieldAt bytes entry f

-- what a fault of an entry's text is refused as; offsets count from the field's first byte, which stands so far before the text
abbrev pub IsTextRefusal : ℕ → ℕ → Marc8Fault → Refusal → Type 0
IsTextRefusal entry start (BadByte place) refusal = refusal ≡ BadText entry (start + place)
IsTextRefusal entry start (marc8.OtherSet set place) refusal = refusal ≡ OtherSet set entry (start + place)
IsTextRefusal entry start NoMemory refusal = ⊥

-- the text of an entry has a fault, which is refused so
pub record IsEntryFault (bytes : List ℕ) (entry : ℕ) (refusal : Refusal) : Type 0 where
  pub fault : Marc8Fault
  pub here : IsFaultIn (coding_at bytes) (text_at bytes entry) fault
  pub named : IsTextRefusal entry (text_start bytes entry) fault refusal

-- the text of an entry has no fault
abbrev pub HasText : List ℕ → ℕ → Type 0
HasText bytes entry = (text : List ℕ) × IsTextIn (coding_at bytes) (text_at bytes entry) text

-- the refusal is that of the first entry whose text has a fault
pub record IsTextFault (bytes : List ℕ) (refusal : Refusal) : Type 0 where
  pub sound : IsSound bytes
  pub coding : is_known_coding (coding_at bytes) ≡ true
  pub entry : ℕ
  pub within : entry < entry_count bytes
  pub before : (earlier : ℕ) → earlier < entry → HasText bytes earlier
  pub here : IsEntryFault bytes entry refusal

-- the first refusal that applies, in the order of length, leader, directory, fields, coding and text
abbrev pub IsRefusedAs : List ℕ → Refusal → Type 0
IsRefusedAs bytes UnknownCoding = IsSound bytes × (is_known_coding (coding_at bytes) ≡ false)
IsRefusedAs bytes (BadText entry offset) = IsTextFault bytes (BadText entry offset)
IsRefusedAs bytes (OtherSet set entry offset) = IsTextFault bytes (OtherSet set entry offset)
IsRefusedAs bytes refusal = IsFirstFault bytes refusal
