-- When a record's bytes are refused. Source: ISO 2709, as the MARC 21 Specifications for Record Structure use it; which
-- leader bytes are read, and that areas may stand in any order, is this project's profile.
use Rattle.std.specs.Prelude.{◌≡◌, ℕ, suc, ◌+◌, ◌-◌, ◌%◌, ◌==◌, Bool, true, false, ◌&&◌, ◌||◌, not, nat_lt, nat_le, if◌then◌else◌, List, [], ◌∷◌, length, take, drop, slice_index, slice_range}
use Rattle.std.specs.Bool.{MatchBool}
use Rattle.std.specs.List.{list_all, list_any}
use Rattle.marc_types.specs.declared.field.Tag.{Tag}
use Rattle.marc_types.specs.declared.refusal.Refusal.{Refusal}
use Rattle.marc_types.specs.declared.refusal.Refusal.TheVariants.{BadLength, BadLeader, BadDirectory, BadField}
use Rattle.marc_types.specs.declared.refusal.RecordFault.{RecordFault}
use Rattle.marc_types.specs.declared.refusal.RecordFault.TheVariants.{Refused, NoMemory}
use Rattle.marc_types.specs.Valid.{is_printable, is_graphic, is_digit, is_alphanumeric, is_control_tag}
use Rattle.iso2709_record.specs.Written.{record_terminator, field_terminator, delimiter}
use Rattle.iso2709_record.specs.First.{AllGood, IsFirstBad}
use Rattle.iso2709_record.specs.Layout.{number, base_of, entry_count, entry_at, tag_at, length_at, start_at, area_at, data_at, lengths_of}

-- the last byte is the mark, and no earlier byte is
unfoldable pub ends_once : ℕ → List ℕ → Bool
ends_once mark bytes =
    nat_lt 0 (length bytes)
    && (slice_index bytes (length bytes - 1) == mark)
    && not (list_any (λ b. b == mark) (take (length bytes - 1) bytes))

-- The record is shorter than a leader, a directory's end and a record terminator, or its first five bytes aren't digits,
-- or their number isn't its length, or its last byte isn't a record terminator, or an earlier byte is.
unfoldable pub has_bad_length : List ℕ → Bool
has_bad_length bytes =
    nat_lt (length bytes) 26
    || not (list_all is_digit (take 5 bytes))
    || not (number (take 5 bytes) == length bytes)
    || not (ends_once record_terminator bytes)

-- A leader byte of 05 to 09 or 17 to 19 isn't printable, or the base address isn't five digits, or it lies before the
-- least directory's end or behind the record terminator.
unfoldable pub has_bad_leader : List ℕ → Bool
has_bad_leader bytes =
    not (list_all is_printable (slice_range bytes 5 10))
    || not (list_all is_printable (slice_range bytes 17 20))
    || not (list_all is_digit (slice_range bytes 12 17))
    || nat_lt (base_of bytes) 25
    || nat_lt (length bytes - 1) (base_of bytes)

-- Before the base address doesn't stand a number of whole entries and a field terminator.
unfoldable pub is_ragged : List ℕ → Bool
is_ragged bytes =
    not ((base_of bytes - 25) % 12 == 0) || not (slice_index bytes (base_of bytes - 1) == field_terminator)

-- The entry's tag is of digits and letters, and its length and start are digits.
unfoldable pub is_good_entry : List ℕ → ℕ → Bool
is_good_entry bytes entry =
    list_all is_alphanumeric (take 3 (entry_at bytes entry)) && list_all is_digit (drop 3 (entry_at bytes entry))

-- The area has a byte, and ends before the record terminator.
abbrev pub lies_within : List ℕ → ℕ → Bool
lies_within bytes entry =
    nat_lt 0 (length_at bytes entry)
    && nat_le (base_of bytes + start_at bytes entry + length_at bytes entry) (length bytes - 1)

-- The lengths of the entries up to this one have room between the base address and the record terminator.
abbrev pub lengths_fit : List ℕ → ℕ → Bool
lengths_fit bytes entry = nat_le (lengths_of bytes (suc entry)) (length bytes - base_of bytes - 1)

-- No byte is a delimiter.
unfoldable pub is_control_data : List ℕ → Bool
is_control_data bytes = not (list_any (λ b. b == delimiter) bytes)

-- the bytes begin with a graphic character
abbrev pub starts_with_code : List ℕ → Bool
starts_with_code [] = false
starts_with_code (b ∷ bs) = is_graphic b

-- Each delimiter is followed by a code.
abbrev pub codes_follow : List ℕ → Bool
codes_follow [] = true
codes_follow (b ∷ bs) = (if b == delimiter then starts_with_code bs else true) && codes_follow bs

-- There is no byte, or the first is a delimiter.
abbrev pub starts_subfield : List ℕ → Bool
starts_subfield [] = true
starts_subfield (b ∷ bs) = b == delimiter

-- The bytes are subfields: each begins with a delimiter and a code, and nothing stands before the first.
unfoldable pub is_subfield_data : List ℕ → Bool
is_subfield_data bytes = starts_subfield bytes && codes_follow bytes

-- Two indicators, which are printable, and subfields.
unfoldable pub is_variable_data : List ℕ → Bool
is_variable_data bytes =
    nat_le 2 (length bytes) && list_all is_printable (take 2 bytes) && is_subfield_data (drop 2 bytes)

-- What stands before a field's terminator is as the tag says.
unfoldable pub fits_tag : Tag → List ℕ → Bool
fits_tag tag bytes = if is_control_tag tag then is_control_data bytes else is_variable_data bytes

-- The entry's area lies within the record, has room beside those before it, ends with its only field terminator, and what
-- it holds is as its tag says.
unfoldable pub is_good_field : List ℕ → ℕ → Bool
is_good_field bytes entry =
    lies_within bytes entry
    && lengths_fit bytes entry
    && ends_once field_terminator (area_at bytes entry)
    && fits_tag (tag_at bytes entry) (data_at bytes entry)

-- The directory is refused at this entry: behind the last whole entry where it is ragged, else at its first bad one.
abbrev pub IsBadDirectory : List ℕ → ℕ → Type 0
IsBadDirectory bytes entry =
    MatchBool (is_ragged bytes) (entry ≡ entry_count bytes) (IsFirstBad (is_good_entry bytes) (entry_count bytes) entry)

-- the length and the leader are as they should be, and the directory is of whole entries
pub record HasWholeEntries (bytes : List ℕ) : Type 0 where
  pub good_length : has_bad_length bytes ≡ false
  pub good_leader : has_bad_leader bytes ≡ false
  pub not_ragged : is_ragged bytes ≡ false

-- each entry is of tag, length and start as well
pub record HasDirectory (bytes : List ℕ) : Type 0 where
  pub whole : HasWholeEntries bytes
  pub good_entries : AllGood (is_good_entry bytes) (entry_count bytes)

-- nothing is refused
pub record IsSound (bytes : List ℕ) : Type 0 where
  pub directory : HasDirectory bytes
  pub good_fields : AllGood (is_good_field bytes) (entry_count bytes)

-- the refusal is the first that applies, in the order of length, leader, directory and fields
abbrev pub IsFirstFault : List ℕ → Refusal → Type 0
IsFirstFault bytes BadLength = has_bad_length bytes ≡ true
IsFirstFault bytes BadLeader = (has_bad_length bytes ≡ false) × (has_bad_leader bytes ≡ true)
IsFirstFault bytes (BadDirectory entry) =
    (has_bad_length bytes ≡ false) × (has_bad_leader bytes ≡ false) × IsBadDirectory bytes entry
IsFirstFault bytes (BadField entry) = HasDirectory bytes × IsFirstBad (is_good_field bytes) (entry_count bytes) entry
IsFirstFault bytes _ = ⊥

-- the fault is that refusal, or want of memory
abbrev pub IsFirstFaultOf : List ℕ → RecordFault → Type 0
IsFirstFaultOf bytes (Refused refusal) = IsFirstFault bytes refusal
IsFirstFaultOf bytes NoMemory = Unit {0}
