-- What the bytes of a record hold, before any text is read. Source: MARC 21 Specifications for Record Structure.
use Rattle.std.specs.Prelude.{ℕ, ◌==◌, Bool, ◌||◌, not, List, map, slice_index}
use Rattle.std.specs.List.{list_any, range_with_len}
use Rattle.marc_types.specs.declared.field.Leader.{Leader}
use Rattle.marc_types.specs.declared.field.Field.{Field}
use Rattle.iso2709_record.specs.declared.raw.RawField.{RawField}
use Rattle.iso2709_record.specs.declared.raw.RawRecord.{RawRecord}
use Rattle.iso2709_record.specs.Written.{record_terminator, field_terminator, field_data}
use Rattle.marc_types.specs.Fields.{tag_of}
use Rattle.iso2709_record.specs.Layout.{entry_count, tag_at, data_at}

-- the leader's bytes 05 to 08 and 17 to 19
unfoldable pub leader_at : List ℕ → Leader
leader_at bytes = record {
  status = slice_index bytes 5;
  rtype = slice_index bytes 6;
  level = slice_index bytes 7;
  control = slice_index bytes 8;
  encoding = slice_index bytes 17;
  form = slice_index bytes 18;
  linked = slice_index bytes 19;
}

-- the leader's byte 09
abbrev pub coding_at : List ℕ → ℕ
coding_at bytes = slice_index bytes 9

-- the tag of an entry, and the data that it leads to
abbrev pub raw_field : List ℕ → ℕ → RawField
raw_field bytes entry = record { tag = tag_at bytes entry; area = data_at bytes entry }

-- the fields in the order of the directory
abbrev pub raw_fields : List ℕ → ℕ → List RawField
raw_fields bytes entries = map (raw_field bytes) (range_with_len 0 entries)

-- the leader, the coding and the fields of a record's bytes, before any text is read
abbrev pub raw_record : List ℕ → RawRecord
raw_record bytes = record { leader = leader_at bytes; coding = coding_at bytes; fields = raw_fields bytes (entry_count bytes) }

-- a field before its text is read
abbrev pub raw_of : Field → RawField
raw_of field = record { tag = tag_of field; area = field_data field }

-- what a record's written form holds: its text is coded `a`
abbrev pub raw_of_record : Leader → List Field → RawRecord
raw_of_record leader fields = record { leader = leader; coding = 97; fields = map raw_of fields }

-- no byte is a terminator
unfoldable pub has_no_terminator : List ℕ → Bool
has_no_terminator bytes = not (list_any (λ b. (b == record_terminator) || (b == field_terminator)) bytes)
