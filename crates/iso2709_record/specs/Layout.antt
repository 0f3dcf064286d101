-- Where the parts of a record stand: a leader of 24 bytes, a directory of twelve bytes for each field and a field
-- terminator, the fields' areas, and a record terminator. Source: ISO 2709, as the MARC 21 Specifications for Record
-- Structure use it. Places and entries count from 0.
use Rattle.std.specs.Prelude.{ℕ, zero, suc, ◌+◌, ◌-◌, ◌*◌, ◌/◌, List, length, take, fold, slice_index, slice_range}
use Rattle.marc_types.specs.declared.field.Tag.{Tag}
use Rattle.iso2709_record.specs.declared.layout.Layout.{Layout}

-- the number that decimal digits spell
abbrev pub number : List ℕ → ℕ
number digits = fold (λ n digit. 10 * n + (digit - 48)) 0 digits

-- where the fields' areas begin
unfoldable pub base_of : List ℕ → ℕ
base_of bytes = number (slice_range bytes 12 17)

-- how many whole entries there is room for between the leader and the base address
abbrev pub entry_count : List ℕ → ℕ
entry_count bytes = (base_of bytes - 25) / 12

-- the base address and the number of entries that the bytes claim
abbrev pub layout_of : List ℕ → Layout
layout_of bytes = record { base = base_of bytes; entries = entry_count bytes }

-- an entry of the directory: a tag of three bytes, a length of four digits, a start of five digits
unfoldable pub entry_at : List ℕ → ℕ → List ℕ
entry_at bytes entry = slice_range bytes (24 + 12 * entry) (36 + 12 * entry)

-- the tag of an entry of the directory, its first three bytes
unfoldable pub tag_at : List ℕ → ℕ → Tag
tag_at bytes entry = record {
  a = slice_index (entry_at bytes entry) 0;
  b = slice_index (entry_at bytes entry) 1;
  c = slice_index (entry_at bytes entry) 2;
}

-- the length of an entry's area
unfoldable pub length_at : List ℕ → ℕ → ℕ
length_at bytes entry = number (slice_range (entry_at bytes entry) 3 7)

-- where an entry's area begins, behind the base address
unfoldable pub start_at : List ℕ → ℕ → ℕ
start_at bytes entry = number (slice_range (entry_at bytes entry) 7 12)

-- the area of an entry: so many bytes from its start on
unfoldable pub area_at : List ℕ → ℕ → List ℕ
area_at bytes entry =
    let from = base_of bytes + start_at bytes entry in
    slice_range bytes from (from + length_at bytes entry)

-- the area without its last byte, the field terminator
unfoldable pub data_at : List ℕ → ℕ → List ℕ
data_at bytes entry = take (length (area_at bytes entry) - 1) (area_at bytes entry)

-- the lengths of so many first entries together
abbrev pub lengths_of : List ℕ → ℕ → ℕ
lengths_of bytes zero = 0
lengths_of bytes (suc entries) = lengths_of bytes entries + length_at bytes entries
