-- The payloads of a log of checkpoints. The format is this project's own: `S` begins a checkpoint, `R` brings kept records, and `E`
-- ends one with the number of entries that the history had and the number of records.
use Rattle.std.specs.Prelude.{ℕ, ◌+◌, Bool, List, [], ◌∷◌, ◌++◌, length, map, Option, Some, None, is_some, if◌then◌else◌}
use Rattle.std.specs.Int.{w32, w64, to_be_bytes}
use Rattle.std.specs.List.{flat_map}
use Rattle.marc_types.specs.declared.key.Class.{Class}
use Rattle.marc_types.specs.declared.key.Class.TheVariants.{Authority, Bibliographic}
use Rattle.marc_types.specs.declared.key.Key.{Key}
use Rattle.marc_types.specs.declared.entry.Tie.{Tie}
use Rattle.iso2709_record.specs.Written.{record_bytes}
use Rattle.catalogue_rules.specs.State.{KeptRecord, Row, fields_of}
use Rattle.kept_rows.specs.declared.row.KeptRow.{KeptRow}
use Rattle.kept_rows.specs.Rows.{row_of}
use Rattle.checkpoint.specs.declared.part.Part.{Part}
use Rattle.checkpoint.specs.declared.part.Part.TheVariants.{Begin, Rows, End}

-- a text behind its length, which takes one byte
unfoldable pub coded : List ℕ → List ℕ
coded text = length text ∷ text

-- bytes behind their length, which takes four
unfoldable pub sized : List ℕ → List ℕ
sized bytes = to_be_bytes w32 (length bytes) ++ bytes

-- a key: code and number, each behind its length
unfoldable pub key_bytes : Key → List ℕ
key_bytes key = coded key.code ++ coded key.number

-- a key, or nothing
abbrev pub optional_key_bytes : Option Key → List ℕ
optional_key_bytes None = []
optional_key_bytes (Some key) = key_bytes key

-- the value where it holds, else 0
abbrev pub flag : ℕ → Bool → ℕ
flag value b = if b then value else 0

-- the sum of 1 where the field is linked, 2 where it is whole, and 4 where it awaits a key
abbrev pub tie_flags : Tie → ℕ
tie_flags t = flag 1 (is_some t.key) + flag 2 t.whole + flag 4 (is_some t.awaits)

-- the flags, the linked key and the awaited one
unfoldable pub tie_bytes : Tie → List ℕ
tie_bytes t = tie_flags t ∷ (optional_key_bytes t.key ++ optional_key_bytes t.awaits)

-- `A` or `B`
abbrev pub class_byte : Class → ℕ
class_byte Authority = 0x41
class_byte Bibliographic = 0x42

-- what stands before the ties: the class, the key's code, and the written record
unfoldable pub head_bytes : Class → List ℕ → List ℕ → List ℕ
head_bytes class code written = class_byte class ∷ (coded code ++ sized written)

-- the ties of a kept record
abbrev pub ties_of : KeptRecord → List Tie
ties_of r = map (λ h. h.tie) r.fields

-- a kept record under its key: its head, and a tie for each field
unfoldable pub kept_bytes : Class → Row → List ℕ
kept_bytes class row = head_bytes class row.0.code (record_bytes row.1.leader (fields_of row.1)) ++ flat_map tie_bytes (ties_of row.1)

-- a kept row as it is written
unfoldable pub row_bytes : KeptRow → List ℕ
row_bytes r = kept_bytes r.class (row_of r)

-- a part as it is written: `S`; `R` and rows; `E` and two numbers
unfoldable pub part_bytes : Part → List ℕ
part_bytes Begin = 0x53 ∷ []
part_bytes (Rows rows) = 0x52 ∷ flat_map row_bytes rows
part_bytes (End entries count) = 0x45 ∷ (to_be_bytes w64 entries ++ to_be_bytes w64 count)
