-- The lines of a list of headings. They are this project's own.
use Rattle.std.specs.Prelude.{ℕ, ◌+◌, ◌==◌, Bool, ◌||◌, nat_lt, List, [], ◌∷◌, ◌++◌, map, codes, if◌then◌else◌}
use Rattle.std.specs.Fmt.{decimal}
use Rattle.std.specs.List.{count_by, sum_by}
use Rattle.marc_types.specs.declared.key.Key.{Key}
use Rattle.heading_fields.specs.Numbers.{key_text}
use Rattle.catalogue_rules.specs.Lines.{line}
use Rattle.catalogue_rules.specs.Settle.{is_linked_to}
use Rattle.catalogue_rules.specs.State.{Row, State}
use Rattle.heading_list.specs.declared.row.ListRow.{ListRow}
use Rattle.heading_list.specs.declared.row.Role.{Role}
use Rattle.heading_list.specs.declared.row.Role.TheVariants.{Established, SeeFrom}

-- how many fields of a record are linked to a key
abbrev pub linked_of_row : Key → Row → ℕ
linked_of_row key row = count_by (is_linked_to key) row.1.fields

-- how many fields of records are
unfoldable pub linked_of_rows : Key → List Row → ℕ
linked_of_rows key rows = sum_by (linked_of_row key) rows

-- how many fields of a state are linked to a key, in records of either class
abbrev pub linked_to : Key → State → ℕ
linked_to key s = linked_of_rows key s.authorities + linked_of_rows key s.bibliographic

-- a control character of ASCII, which would end a line or a column
abbrev pub is_control : ℕ → Bool
is_control b = nat_lt b 32 || (b == 127)

-- a byte as lines have it: a blank for a control character
abbrev pub printed_byte : ℕ → ℕ
printed_byte b = if is_control b then 32 else b

-- a text in a line, and a tabulator behind it
abbrev pub text_column : List ℕ → List ℕ
text_column text = map printed_byte text ++ 9 ∷ []

-- what stands behind the text: of a heading its key, a tabulator, and how many fields are linked to it; of a see-from form an arrow
-- to the key
abbrev pub key_column : ℕ → Role → Key → List ℕ
key_column linked Established key = key_text key ++ 9 ∷ decimal linked
key_column linked SeeFrom key = codes "-> " ++ key_text key

-- the line of a row, to whose key so many fields are linked
abbrev pub row_line : ℕ → ListRow → List ℕ
row_line linked r = line (text_column r.text ++ key_column linked r.role r.key)
