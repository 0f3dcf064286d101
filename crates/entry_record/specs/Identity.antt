-- What a record is and which key it stands under. Source: MARC 21 Format for Bibliographic Data and MARC 21 Format for
-- Authority Data (leader 05 and 06, fields 001 and 003); the rules on blanks, codes and numbers are this project's.
use Rattle.std.specs.Prelude.{ℕ, ◌==◌, Bool, ◌&&◌, ◌||◌, List, [], ◌∷◌, Option, Some, None, codes, unwrap_or, if◌then◌else◌}
use Rattle.std.specs.List.{list_any}
use Rattle.marc_types.specs.declared.field.Tag.{Tag}
use Rattle.marc_types.specs.declared.field.Leader.{Leader}
use Rattle.marc_types.specs.declared.field.Field.{Field}
use Rattle.marc_types.specs.declared.field.Field.TheVariants.{Control, Variable}
use Rattle.marc_types.specs.declared.key.Class.{Class}
use Rattle.marc_types.specs.declared.key.Class.TheVariants.{Authority, Bibliographic}
use Rattle.marc_types.specs.declared.key.Key.{Key}
use Rattle.heading_fields.specs.Numbers.{without_blanks}

-- leader 06 `z` is authority data
abbrev pub class_of : Leader → Class
class_of l = if l.rtype == 122 then Authority else Bibliographic

-- leader 06 of authority data, and of the bibliographic types `a c d e f g i j k m o p r t`
abbrev pub is_known_type : ℕ → Bool
is_known_type rtype = list_any (λ t. t == rtype) (codes "zacdefgijkmoprt")

-- leader 05 `d` deletes; of authority data, `s` (split) and `x` (replaced) do too
abbrev pub is_deletion : Leader → Bool
is_deletion l =
    (l.status == 100) || ((l.rtype == 122) && ((l.status == 115) || (l.status == 120)))

-- the tag is these three characters
abbrev pub has_tag : ℕ → ℕ → ℕ → Tag → Bool
has_tag a b c t = (t.a == a) && (t.b == b) && (t.c == c)

-- the text of the first control field whose tag is `00` and this character
abbrev pub first_control : ℕ → List Field → Option (List ℕ)
first_control c [] = None
first_control c (Control tag text ∷ fields) = if has_tag 48 48 c tag then Some text else first_control c fields
first_control c (Variable tag ind1 ind2 subs ∷ fields) = first_control c fields

-- the first 001 without its blanks
unfoldable pub control_number_of : List Field → List ℕ
control_number_of fields = without_blanks (unwrap_or (first_control 49 fields) [])

-- a code, or the library's where nothing is left of it
abbrev pub or_library : List ℕ → List ℕ → List ℕ
or_library library [] = library
or_library library (b ∷ bs) = b ∷ bs

-- the code: the first 003 without its blanks, or where nothing is left of it the library code of the file
unfoldable pub code_of : List ℕ → List Field → List ℕ
code_of library fields = or_library library (without_blanks (unwrap_or (first_control 51 fields) []))

-- the key of a record in a file of a library
unfoldable pub key_of : List ℕ → List Field → Key
key_of library fields = record { code = code_of library fields; number = control_number_of fields }
