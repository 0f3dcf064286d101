-- The written form of a record: a leader of 24 bytes, a directory and the variable fields. Source: ISO 2709, as the MARC 21
-- Specifications for Record Structure use it.
use Rattle.std.specs.Prelude.{ℕ, ◌+◌, ◌*◌, ◌/◌, ◌%◌, Bool, ◌&&◌, nat_le, List, [], ◌∷◌, ◌++◌, length}
use Rattle.std.specs.List.{flat_map, list_all}
use Rattle.marc_types.specs.Fields.{tag_of}
use Rattle.marc_types.specs.declared.field.Tag.{Tag}
use Rattle.marc_types.specs.declared.field.Leader.{Leader}
use Rattle.marc_types.specs.declared.field.Subfield.{Subfield}
use Rattle.marc_types.specs.declared.field.Field.{Field}
use Rattle.marc_types.specs.declared.field.Field.TheVariants.{Control, Variable}

-- 1D
abbrev pub record_terminator : ℕ
record_terminator = 0x1d

-- 1E
abbrev pub field_terminator : ℕ
field_terminator = 0x1e

-- 1F, before each subfield's code
abbrev pub delimiter : ℕ
delimiter = 0x1f

-- the last decimal digit of a number
abbrev pub digit : ℕ → ℕ
digit n = 48 + n % 10

-- a number of at most four digits, with zeros in front
unfoldable pub four_digits : ℕ → List ℕ
four_digits n = digit (n / 1000) ∷ digit (n / 100) ∷ digit (n / 10) ∷ digit n ∷ []

-- a number of at most five digits, with zeros in front
unfoldable pub five_digits : ℕ → List ℕ
five_digits n = digit (n / 10000) ∷ digit (n / 1000) ∷ digit (n / 100) ∷ digit (n / 10) ∷ digit n ∷ []

-- the delimiter, the code and the text
unfoldable pub subfield_bytes : Subfield → List ℕ
subfield_bytes s = delimiter ∷ s.code ∷ s.text

-- the text of a control field, or the indicators and subfields of any other
unfoldable pub field_data : Field → List ℕ
field_data (Control tag text) = text
field_data (Variable tag ind1 ind2 subs) = ind1 ∷ ind2 ∷ flat_map subfield_bytes subs

-- a field's data and a field terminator
unfoldable pub field_bytes : Field → List ℕ
field_bytes f = field_data f ++ field_terminator ∷ []

-- the length of a field, with its terminator
unfoldable pub field_length : Field → ℕ
field_length f = length (field_bytes f)

-- the length of all fields' bytes
abbrev pub fields_length : List Field → ℕ
fields_length [] = 0
fields_length (f ∷ fs) = field_length f + fields_length fs

-- where the first field stands: behind the leader, twelve bytes for each field, and the directory's terminator
abbrev pub base_address : List Field → ℕ
base_address fields = 25 + 12 * length fields

-- the length of the whole written record
abbrev pub record_length : List Field → ℕ
record_length fields = base_address fields + fields_length fields + 1

-- a directory entry: a tag, a field's length, and where the field starts behind the base address
abbrev pub entry_of : Tag → ℕ → ℕ → List ℕ
entry_of tag size start = (tag.a ∷ tag.b ∷ tag.c ∷ []) ++ four_digits size ++ five_digits start

-- the entry of a field in the directory: its tag, its length in four digits, its start in five
unfoldable pub entry_bytes : ℕ → Field → List ℕ
entry_bytes start f = entry_of (tag_of f) (field_length f) start

-- the entries of fields that stand one behind the other
abbrev pub directory_bytes : ℕ → List Field → List ℕ
directory_bytes start [] = []
directory_bytes start (f ∷ fs) = entry_bytes start f ++ directory_bytes (start + field_length f) fs

-- a record's length, its own leader bytes with coding `a` (UTF-8) and the counts `22` behind them, the base address, and
-- the other leader bytes before the entry map `4500`
abbrev pub leader_of : Leader → ℕ → ℕ → List ℕ
leader_of l size base =
    five_digits size
    ++ (l.status ∷ l.rtype ∷ l.level ∷ l.control ∷ 97 ∷ 50 ∷ 50 ∷ [])
    ++ five_digits base
    ++ (l.encoding ∷ l.form ∷ l.linked ∷ 52 ∷ 53 ∷ 48 ∷ 48 ∷ [])

-- the leader of 24 bytes, with the record's length and base address
unfoldable pub leader_bytes : Leader → List Field → List ℕ
leader_bytes l fields = leader_of l (record_length fields) (base_address fields)

-- leader, directory, field terminator, fields, record terminator
unfoldable pub record_bytes : Leader → List Field → List ℕ
record_bytes l fields =
    leader_bytes l fields
    ++ directory_bytes 0 fields
    ++ field_terminator ∷ []
    ++ flat_map field_bytes fields
    ++ record_terminator ∷ []

-- the leader has room for a record's length of five digits, and the directory for a field's length of four
unfoldable pub fits : List Field → Bool
fits fields = nat_le (record_length fields) 99999 && list_all (λ f. nat_le (field_length f) 9999) fields
