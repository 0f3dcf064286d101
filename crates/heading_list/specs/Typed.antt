-- How a heading is read that a user types: `$` and a code begin a subfield, as in `Twain, Mark,$d1835-1910`. How it is written is
-- this project's own; it is compared as the heading of an authority record is (NACO Authority File Comparison Rules, as this
-- project's profile).
use Rattle.std.specs.Prelude.{ℕ, ◌==◌, Bool, true, ◌&&◌, ◌||◌, nat_le, List, [], ◌∷◌, chars, encode_utf8_all, if◌then◌else◌}
use Rattle.marc_types.specs.Valid.{is_digit}
use Rattle.marc_types.specs.declared.field.Subfield.{Subfield}
use Rattle.marc_types.specs.declared.form.Form.{Form}
use Rattle.marc_types.specs.declared.form.Kind.{Kind}
use Rattle.heading_fields.specs.Parts.{part}
use Rattle.naco_form.specs.Form.{form_of}

-- a small letter or a digit
abbrev pub is_typed_code : ℕ → Bool
is_typed_code c = (nat_le 97 c && nat_le c 122) || is_digit c

-- a character and the next one are `$` and a code; any other `$` is a character of the text
abbrev pub is_code_at : ℕ → ℕ → Bool
is_code_at c next = (c == 36) && is_typed_code next

-- the characters before the first code
unfoldable pub text_before : List ℕ → List ℕ
text_before [] = []
text_before (c ∷ []) = c ∷ []
text_before (c ∷ next ∷ cs) = if is_code_at c next then [] else c ∷ text_before (next ∷ cs)

-- a subfield of that code, with the characters before the next one
abbrev pub typed_subfield : ℕ → List ℕ → Subfield
typed_subfield code cs = record { code = code; text = encode_utf8_all (text_before cs) }

-- a subfield for each code
unfoldable pub coded_subfields : List ℕ → List Subfield
coded_subfields [] = []
coded_subfields (c ∷ []) = []
coded_subfields (c ∷ next ∷ cs) =
    if is_code_at c next then typed_subfield next cs ∷ coded_subfields cs else coded_subfields (next ∷ cs)

-- the subfields of typed characters: what stands before the first code, though it be nothing, is that of an `$a`
abbrev pub typed_subfields : List ℕ → List Subfield
typed_subfields cs = typed_subfield 97 cs ∷ coded_subfields cs

-- the form of a typed heading of a kind: that of its full part, in which an empty subfield counts for nothing
unfoldable pub typed_form : Kind → List ℕ → Form
typed_form kind text = form_of kind (part true kind (typed_subfields (chars text)))
