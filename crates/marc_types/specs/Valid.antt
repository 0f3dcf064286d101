-- What a MARC 21 record is. Source: MARC 21 Specifications for Record Structure (leader, directory, variable fields); the
-- bounds on numbers are this project's.
use Rattle.std.specs.Prelude.{ℕ, ◌+◌, ◌==◌, Bool, ◌&&◌, ◌||◌, not, nat_le, List, [], ◌∷◌, length}
use Rattle.std.specs.List.{list_all}
use Rattle.marc_types.specs.declared.field.Tag.{Tag}
use Rattle.marc_types.specs.declared.field.Leader.{Leader}
use Rattle.marc_types.specs.declared.field.Subfield.{Subfield}
use Rattle.marc_types.specs.declared.field.Field.{Field}
use Rattle.marc_types.specs.declared.field.Field.TheVariants.{Control, Variable}

-- a blank or a graphic ASCII character, as leader bytes and indicators are
abbrev pub is_printable : ℕ → Bool
is_printable b = nat_le 0x20 b && nat_le b 0x7e

-- a graphic ASCII character, as subfield codes are
abbrev pub is_graphic : ℕ → Bool
is_graphic b = nat_le 0x21 b && nat_le b 0x7e

-- a digit
abbrev pub is_digit : ℕ → Bool
is_digit b = nat_le 48 b && nat_le b 57

-- a digit or an ASCII letter, as the characters of a tag are
abbrev pub is_alphanumeric : ℕ → Bool
is_alphanumeric b = is_digit b || (nat_le 65 b && nat_le b 90) || (nat_le 97 b && nat_le b 122)

-- no record terminator, field terminator or subfield delimiter
abbrev pub is_data : ℕ → Bool
is_data b = not (nat_le 0x1d b && nat_le b 0x1f)

-- three digits or ASCII letters
abbrev pub is_tag : Tag → Bool
is_tag t = is_alphanumeric t.a && is_alphanumeric t.b && is_alphanumeric t.c

-- a tag of a control field begins with `00`
abbrev pub is_control_tag : Tag → Bool
is_control_tag t = (t.a == 48) && (t.b == 48)

-- the bytes 05 to 08 and 17 to 19, each a blank or a graphic ASCII character
unfoldable pub is_leader : Leader → Bool
is_leader l =
    list_all is_printable
    (l.status ∷ l.rtype ∷ l.level ∷ l.control ∷ l.encoding ∷ l.form ∷ l.linked ∷ [])

-- no byte of the text is a terminator or a delimiter
unfoldable pub is_text : List ℕ → Bool
is_text bytes = list_all is_data bytes

-- a graphic code, and a text
unfoldable pub is_subfield : Subfield → Bool
is_subfield s = is_graphic s.code && is_text s.text

-- a control field has a control tag and a text; any other has another tag, two printable indicators and subfields
unfoldable pub is_field : Field → Bool
is_field (Control tag text) = is_tag tag && is_control_tag tag && is_text text
is_field (Variable tag ind1 ind2 subs) =
    is_tag tag && not (is_control_tag tag) && is_printable ind1 && is_printable ind2 && list_all is_subfield subs

-- two bytes for the delimiter and the code, and the text
abbrev pub subfields_size : List Subfield → ℕ
subfields_size [] = 0
subfields_size (s ∷ ss) = 2 + length s.text + subfields_size ss

-- the bytes of a field's texts, and two for each subfield
unfoldable pub field_size : Field → ℕ
field_size (Control tag text) = length text
field_size (Variable tag ind1 ind2 subs) = subfields_size subs

-- the bytes of all texts and two per subfield
abbrev pub fields_size : List Field → ℕ
fields_size [] = 0
fields_size (f ∷ fs) = field_size f + fields_size fs

-- a directory has room for 8,331 entries, and all fields together for 1,000,000 bytes
unfoldable pub is_record : Leader → List Field → Bool
is_record leader fields =
    is_leader leader && list_all is_field fields && nat_le (length fields) 8331 && nat_le (fields_size fields) 1000000

-- the code of an institution is of graphic characters without parentheses, since a key's text stands it in parentheses
abbrev pub is_code_byte : ℕ → Bool
is_code_byte b = is_graphic b && not (b == 40) && not (b == 41)

-- a code has 1 to 16 bytes
unfoldable pub is_code : List ℕ → Bool
is_code code = nat_le 1 (length code) && nat_le (length code) 16 && list_all is_code_byte code

-- a control number has 1 to 64 graphic characters
unfoldable pub is_number : List ℕ → Bool
is_number number = nat_le 1 (length number) && nat_le (length number) 64 && list_all is_graphic number
