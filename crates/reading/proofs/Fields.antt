-- A field that was made of a converted text.
use Rattle.std.proofs.Common.{◌≡◌, ◌∙◌, ℕ, zero, suc, ◌*◌, ◌≤◌, true, false, List, [], ◌∷◌, ◌++◌, length, get_or, take, drop, refl, sym, ap, subst, arith, length-drop}
use Rattle.std.specs.List.{list_all, flat_map}
use Rattle.std.proofs.lemmas.Grind.{common_steps}
use Rattle.std.proofs.lemmas.Bool.Decides.{nat_tests}
use Rattle.marc_types.specs.Valid.{is_tag, is_control_tag, is_text, is_subfield, is_field, is_printable, field_size}
use Rattle.marc_types.specs.declared.field.Tag.{Tag}
use Rattle.marc_types.specs.declared.field.Subfield.{Subfield}
use Rattle.marc_types.specs.declared.field.Field.TheVariants.{Control, Variable}
use Rattle.iso2709_record.specs.Written.{subfield_bytes, field_data}
use Rattle.iso2709_record.specs.Faults.{is_control_data, is_variable_data, is_subfield_data, fits_tag}
use Rattle.iso2709_record.specs.Raw.{has_no_terminator}
use Rattle.iso2709_record.specs.Spelling.{Spells}
use Rattle.iso2709_record.proofs.Spellings.{spelling_there, text_there}
use Rattle.iso2709_record.proofs.Lengths.{length-subfields}
use Rattle.marc8_latin.specs.Subfields as marc8
use Rattle.marc8_latin.proofs.Subfielded.{keeps_subfields}
use Rattle.reading.specs.Reading.{IsTextIn, InMarc8, InUtf8}
use Rattle.reading.specs.Answers.{IsFieldOfText}

-- a text in its coding has no delimiter or terminator where its bytes have none
pub text_stays : (coding : ℕ) (bytes text : List ℕ) → IsTextIn coding bytes text → is_text bytes ≡ true → is_text text ≡ true
text_stays _ _ _ (InMarc8 coding bytes text e h) plain = (keeps_subfields bytes text h).control plain
text_stays _ _ _ (InUtf8 coding bytes e h) plain = plain

spelled_by : (subfields : List Subfield) (bytes : List ℕ) → Spells subfields bytes → marc8.Spells bytes subfields
unfolding subfield_bytes
spelled_by subfields bytes s = record { spells = s.whole; valid = s.valid }

by_spelled : (subfields : List Subfield) (bytes : List ℕ) → marc8.Spells bytes subfields → Spells subfields bytes
unfolding subfield_bytes
by_spelled subfields bytes s = record { valid = s.valid; whole = s.spells }

-- a text in its coding is subfields where its bytes are
pub subfields_stay : (coding : ℕ) (bytes text : List ℕ) → IsTextIn coding bytes text → is_subfield_data bytes ≡ true
    → has_no_terminator bytes ≡ true → (subfields : List Subfield) × Spells subfields text
subfields_stay _ _ _ (InMarc8 coding bytes text e h) cut unended =
    let source = spelling_there bytes cut unended in
    let kept = (keeps_subfields bytes text h).«data» source.0 (spelled_by source.0 bytes source.1) in
    (kept.0, by_spelled kept.0 text kept.1)
subfields_stay _ _ _ (InUtf8 coding bytes e h) cut unended = spelling_there bytes cut unended

fits_control : (tag : Tag) (bytes : List ℕ) → is_control_tag tag ≡ true → fits_tag tag bytes ≡ true → is_control_data bytes ≡ true
unfolding fits_tag
fits_control tag bytes control fits = rw control at fits

fits_variable : (tag : Tag) (bytes : List ℕ) → is_control_tag tag ≡ false → fits_tag tag bytes ≡ true → is_variable_data bytes ≡ true
unfolding fits_tag
fits_variable tag bytes variable fits = rw variable at fits

control_valid : (tag : Tag) (text : List ℕ) → is_tag tag ≡ true → is_control_tag tag ≡ true → is_text text ≡ true → is_field (Control tag text) ≡ true
unfolding is_field
control_valid tag text t c x = grind (arith, common_steps)

-- a control field of a text in its coding
pub control_read : (coding : ℕ) (tag : Tag) (area text : List ℕ) → is_tag tag ≡ true → is_control_tag tag ≡ true
    → fits_tag tag area ≡ true → has_no_terminator area ≡ true → IsTextIn coding area text → IsFieldOfText coding tag [] area (Control tag text)
unfolding field_data
control_read coding tag area text valid control fits unended read = record {
  text = text;
  read = read;
  is = record {
    valid = control_valid tag text valid control
        (text_stays coding area text read (text_there area (fits_control tag area control fits) unended));
    its_tag = refl;
    its_bytes = refl;
  };
}

-- what stands in front of the subfields, and the subfields
pub record HasParts (area : List ℕ) : Type 0 where
  pub long : 2 ≤ length area
  pub printable : list_all is_printable (take 2 area) ≡ true
  pub cut : is_subfield_data (drop 2 area) ≡ true

parts_of : (bytes : List ℕ) → is_variable_data bytes ≡ true → HasParts bytes
unfolding is_variable_data
parts_of bytes h = record { long = grind (arith, nat_tests, common_steps); printable = grind (arith, common_steps); cut = grind (arith, common_steps) }

pub variable_parts : (tag : Tag) (area : List ℕ) → is_control_tag tag ≡ false → fits_tag tag area ≡ true → HasParts area
variable_parts tag area variable fits = parts_of area (fits_variable tag area variable fits)

unended_drop : (n : ℕ) (bytes : List ℕ) → has_no_terminator bytes ≡ true → has_no_terminator (drop n bytes) ≡ true
unfolding has_no_terminator
unended_drop zero bytes h = h
unended_drop (suc n) [] h = h
unended_drop (suc n) (b ∷ bs) h = unended_drop n bs (grind (arith, common_steps))

variable_valid : (tag : Tag) (a b : ℕ) (subs : List Subfield) → is_tag tag ≡ true → is_control_tag tag ≡ false
    → list_all is_printable (a ∷ b ∷ []) ≡ true → list_all is_subfield subs ≡ true → is_field (Variable tag a b subs) ≡ true
unfolding is_field
variable_valid tag a b subs t c p s = grind (arith, common_steps)

take_two : (area : List ℕ) → 2 ≤ length area → take 2 area ≡ get_or area 0 0 ∷ get_or area 1 0 ∷ []
take_two [] h = absurd (omega arith)
take_two (a ∷ []) h = absurd (omega arith)
take_two (a ∷ b ∷ bs) h = refl

-- the subfields of a converted text
pub subfields_there : (coding : ℕ) (tag : Tag) (area text : List ℕ) → is_control_tag tag ≡ false → fits_tag tag area ≡ true
    → has_no_terminator area ≡ true → IsTextIn coding (drop 2 area) text → (subfields : List Subfield) × Spells subfields text
subfields_there coding tag area text variable fits unended read =
    subfields_stay coding (drop 2 area) text read (variable_parts tag area variable fits).cut (unended_drop 2 area unended)

-- any other field of a text in its coding
pub variable_read : (coding : ℕ) (tag : Tag) (area text : List ℕ) (subs : List Subfield) → is_tag tag ≡ true → is_control_tag tag ≡ false
    → fits_tag tag area ≡ true → IsTextIn coding (drop 2 area) text → Spells subs text
    → IsFieldOfText coding tag (take 2 area) (drop 2 area) (Variable tag (get_or area 0 0) (get_or area 1 0) subs)
unfolding field_data
variable_read coding tag area text subs valid variable fits read spells =
    let parts = variable_parts tag area variable fits in
    let two : take 2 area ≡ get_or area 0 0 ∷ get_or area 1 0 ∷ [] = take_two area parts.long in
    record {
      text = text;
      read = read;
      is = record {
        valid = variable_valid tag (get_or area 0 0) (get_or area 1 0) subs valid variable
            (subst (λ l. list_all is_printable l ≡ true) two parts.printable) spells.valid;
        its_tag = refl;
        its_bytes = ap (λ l. get_or area 0 0 ∷ get_or area 1 0 ∷ l) spells.whole ∙ ap (λ l. l ++ text) (sym two);
      };
    }

pub size_of_control : (tag : Tag) (text : List ℕ) (n : ℕ) → length text ≤ n → field_size (Control tag text) ≤ n
unfolding field_size
size_of_control tag text n h = h

pub size_of_variable : (tag : Tag) (a b : ℕ) (subs : List Subfield) (text area : List ℕ) → Spells subs text
    → length text ≤ 3 * length (drop 2 area) → field_size (Variable tag a b subs) ≤ 3 * length area
unfolding field_size
size_of_variable tag a b subs text area spells h =
    let size : length (flat_map subfield_bytes subs) ≡ length text = ap length spells.whole in
    omega (arith, length-subfields subs, length-drop 2 area)
