-- The data of a field whose texts are UTF-8.
use Rattle.std.proofs.Common.{◌≡◌, ℕ, suc, ◌≤◌, ◌<◌, true, false, List, [], ◌∷◌, length, get_or, drop, refl, sym, ap, subst, arith}
use Rattle.std.specs.Str.{IsUtf8, IsAscii}
use Rattle.std.specs.List.{All, flat_map, list_all}
use Rattle.std.proofs.lemmas.Bool.{and_parts, and_from, not-true, both_ways}
use Rattle.std.proofs.lemmas.Bool.Decides.{nat_tests}
use Rattle.std.proofs.lemmas.Grind.{common_steps}
use Rattle.std.proofs.lemmas.Str.{IsUtf8-append, IsUtf8-from_ascii, IsUtf8-nil}
use Rattle.std.proofs.lemmas.Str.Ascii.{IsAscii-nil, IsAscii-cons}
use Rattle.marc_types.specs.declared.field.Tag.{Tag}
use Rattle.marc_types.specs.declared.field.Subfield.{Subfield}
use Rattle.marc_types.specs.declared.field.Field.{Field}
use Rattle.marc_types.specs.declared.field.Field.TheVariants.{Control, Variable}
use Rattle.marc_types.specs.Valid.{is_control_tag, is_subfield, is_field}
use Rattle.iso2709_record.specs.Written.{delimiter, subfield_bytes, field_data}
use Rattle.iso2709_record.specs.Spelling.{Spells, IsFieldOf}
use Rattle.iso2709_record.specs.Texts.{HasUtf8Text, HasUtf8Texts, SpellsField}

subfield_is_utf8 : (s : Subfield) → is_subfield s ≡ true → IsUtf8 s.text → IsUtf8 (subfield_bytes s)
unfolding subfield_bytes is_subfield
subfield_is_utf8 s valid text =
    let low : s.code < 128 = grind (arith, nat_tests, common_steps) in
    let ascii : IsAscii (delimiter ∷ s.code ∷ []) = IsAscii-cons delimiter (s.code ∷ []) (omega arith) (IsAscii-cons s.code [] low IsAscii-nil) in
    IsUtf8-append (delimiter ∷ s.code ∷ []) s.text (IsUtf8-from_ascii (delimiter ∷ s.code ∷ []) ascii) text

-- subfields are UTF-8 where their texts are
pub subfields_are_utf8 : (subs : List Subfield) → list_all is_subfield subs ≡ true → All HasUtf8Text subs → IsUtf8 (flat_map subfield_bytes subs)
subfields_are_utf8 [] valid texts = IsUtf8-nil
subfields_are_utf8 (s ∷ subs) valid texts =
    let parts = and_parts _ _ valid in
    IsUtf8-append (subfield_bytes s) (flat_map subfield_bytes subs)
    (subfield_is_utf8 s parts.0 (texts 0 s (omega arith)))
    (subfields_are_utf8 subs parts.1 (λ k d within. texts (suc k) d (omega arith)))

-- the text of a control field
pub record IsControlArea (tag : Tag) (area : List ℕ) : Type 0 where
  pub utf8 : IsUtf8 area
  pub field : IsFieldOf tag area (Control tag area)

-- two indicators and subfields, which are a text
pub record IsVariableArea (tag : Tag) (area : List ℕ) : Type 0 where
  pub long : 2 ≤ length area
  pub utf8 : IsUtf8 (drop 2 area)
  pub spelled : (subfields : List Subfield) × Spells subfields (drop 2 area)
  pub field : (subs : List Subfield) → Spells subs (drop 2 area) → IsFieldOf tag area (Variable tag (get_or area 0 0) (get_or area 1 0) subs)

is_no_control : (tag : Tag) (a b : ℕ) (subs : List Subfield) → is_field (Variable tag a b subs) ≡ true → is_control_tag tag ≡ false
unfolding is_field
is_no_control tag a b subs h = not-true _ (and_parts _ _ (and_parts _ _ (and_parts _ _ (and_parts _ _ h).0).0).0).1

is_control : (tag : Tag) (text : List ℕ) → is_field (Control tag text) ≡ true → is_control_tag tag ≡ true
unfolding is_field
is_control tag text h = (and_parts _ _ (and_parts _ _ h).0).1

as_control : (tag : Tag) (text : List ℕ) → is_field (Control tag text) ≡ true → IsUtf8 text → IsControlArea tag (field_data (Control tag text))
unfolding field_data
as_control tag text valid utf8 = record { utf8 = utf8; field = record { valid = valid; its_tag = refl; its_bytes = refl } }

with_subfields : (tag : Tag) (a b : ℕ) (subs others : List Subfield) → is_field (Variable tag a b subs) ≡ true → list_all is_subfield others ≡ true
    → is_field (Variable tag a b others) ≡ true
unfolding is_field
with_subfields tag a b subs others valid more = and_from _ _ (and_parts _ _ valid).0 more

subfields_of_valid : (tag : Tag) (a b : ℕ) (subs : List Subfield) → is_field (Variable tag a b subs) ≡ true → list_all is_subfield subs ≡ true
unfolding is_field
subfields_of_valid tag a b subs valid = (and_parts _ _ valid).1

as_variable : (tag : Tag) (a b : ℕ) (subs : List Subfield) → is_field (Variable tag a b subs) ≡ true → All HasUtf8Text subs
    → IsVariableArea tag (field_data (Variable tag a b subs))
unfolding field_data
as_variable tag a b subs valid utf8 =
    let subfields = subfields_of_valid tag a b subs valid in
    record {
      long = omega arith;
      utf8 = subfields_are_utf8 subs subfields utf8;
      spelled = (subs, record { valid = subfields; whole = refl });
      field = λ others spells. record {
        valid = with_subfields tag a b subs others valid spells.valid;
        its_tag = refl;
        its_bytes = ap (λ l. a ∷ b ∷ l) spells.whole;
      };
    }

pub control_area : (tag : Tag) (area : List ℕ) → is_control_tag tag ≡ true → SpellsField tag area → IsControlArea tag area
control_area tag area control s = of s.field s.is s.texts where
  of : (f : Field) → IsFieldOf tag area f → HasUtf8Texts f → IsControlArea tag area
  of (Control t text) is utf8 =
      subst (λ x. IsControlArea x area) is.its_tag (subst (IsControlArea t) is.its_bytes (as_control t text is.valid utf8))
  of (Variable t a b subs) is utf8 =
      absurd (both_ways _ (is_no_control t a b subs is.valid) (subst (λ x. is_control_tag x ≡ true) (sym is.its_tag) control))

pub variable_area : (tag : Tag) (area : List ℕ) → is_control_tag tag ≡ false → SpellsField tag area → IsVariableArea tag area
variable_area tag area variable s = of s.field s.is s.texts where
  of : (f : Field) → IsFieldOf tag area f → HasUtf8Texts f → IsVariableArea tag area
  of (Variable t a b subs) is utf8 =
      subst (λ x. IsVariableArea x area) is.its_tag (subst (IsVariableArea t) is.its_bytes (as_variable t a b subs is.valid utf8))
  of (Control t text) is utf8 =
      absurd (both_ways _ (subst (λ x. is_control_tag x ≡ false) (sym is.its_tag) variable) (is_control t text is.valid))
