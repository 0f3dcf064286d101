-- Bytes without a mark, and bytes that end with their only one.
use Rattle.std.proofs.Common.{◌≡◌, ℕ, true, false, ◌==◌, leb, List, [], ◌∷◌, ◌++◌, length, lit≤, refl, sym, ◌∙◌, arith, length-append}
use Rattle.std.specs.List.{list_any, list_all, flat_map}
use Rattle.std.proofs.lemmas.Bool.{and_parts, and_from, eq-eqb, le-leb, not-true, not_from_false}
use Rattle.std.proofs.lemmas.List.{get_or_at, take_at}
use Rattle.marc_types.specs.declared.field.Subfield.{Subfield}
use Rattle.marc_types.specs.declared.field.Field.{Field}
use Rattle.marc_types.specs.declared.field.Field.TheVariants.{Control, Variable}
use Rattle.marc_types.specs.Valid.{is_printable, is_text, is_subfield, is_control_tag, is_field}
use Rattle.iso2709_record.specs.Written.{field_terminator, subfield_bytes, field_data, field_bytes}
use Rattle.marc_types.specs.Fields.{tag_of}
use Rattle.iso2709_record.specs.Faults.{ends_once, codes_follow, is_subfield_data, is_control_data, is_variable_data, fits_tag}
use Rattle.iso2709_record.proofs.Endings.{ends_here}
use Rattle.iso2709_record.proofs.Terminators.{IsTerminator, field_data_has_none}
use Rattle.iso2709_record.proofs.Cutting.{codes_follow-text, text_uncut, subfield_uncut, starts-subfields, graphic_is_no_delimiter}

-- the bytes have a mark behind them and none among them
pub ends_once_behind : (mark : ℕ) (front : List ℕ) → list_any (λ b. b == mark) front ≡ false → ends_once mark (front ++ mark ∷ []) ≡ true
ends_once_behind mark front free =
    ends_here mark (front ++ mark ∷ []) (length front)
    (sym (length-append front (mark ∷ [])))
    (rw (get_or_at front mark [] 0 (length front) refl) (eq-eqb mark mark refl))
    (rw (take_at front (mark ∷ []) (length front) refl) free)

-- each subfield that is written begins with a delimiter and a code
subfields_follow : (subfields : List Subfield) → list_all is_subfield subfields ≡ true → codes_follow (flat_map subfield_bytes subfields) ≡ true
unfolding subfield_bytes is_subfield
subfields_follow [] valid = refl
subfields_follow (s ∷ ss) valid =
    let parts = and_parts _ _ valid in
    let own = and_parts _ _ parts.0 in
    let text : codes_follow (s.text ++ flat_map subfield_bytes ss) ≡ true = codes_follow-text s.text (flat_map subfield_bytes ss) (subfield_uncut s parts.0) ∙ subfields_follow ss parts.1 in
    and_from _ _ own.0 (rw (graphic_is_no_delimiter s.code own.0) text)

subfields_written : (subfields : List Subfield) → list_all is_subfield subfields ≡ true → is_subfield_data (flat_map subfield_bytes subfields) ≡ true
unfolding is_subfield_data
subfields_written subfields valid = and_from _ _ (starts-subfields subfields) (subfields_follow subfields valid)

two_behind : (i j : ℕ) (bytes : List ℕ) → leb 2 (length (i ∷ j ∷ bytes)) ≡ true
two_behind i j bytes = le-leb 2 (length (i ∷ j ∷ bytes)) (omega arith)

variable_from : (i j : ℕ) (bytes : List ℕ) → is_printable i ≡ true → is_printable j ≡ true → is_subfield_data bytes ≡ true → is_variable_data (i ∷ j ∷ bytes) ≡ true
unfolding is_variable_data
variable_from i j bytes first second rest =
    and_from _ _ (and_from _ _ (two_behind i j bytes) (and_from _ _ first (and_from _ _ second refl))) rest

-- a valid field's data is as its tag says
pub data_fits : (f : Field) → is_field f ≡ true → fits_tag (tag_of f) (field_data f) ≡ true
unfolding is_field field_data fits_tag is_control_data is_text
data_fits (Control tag text) valid =
    let parts = and_parts _ _ valid in
    let control : is_control_tag tag ≡ true = (and_parts _ _ parts.0).1 in
    rw control (not_from_false _ (text_uncut text parts.1))
data_fits (Variable tag i j subfields) valid =
    let parts = and_parts _ _ valid in
    let marks = and_parts _ _ parts.0 in
    let first = and_parts _ _ marks.0 in
    let other : is_control_tag tag ≡ false = not-true _ (and_parts _ _ first.0).1 in
    rw other (variable_from i j (flat_map subfield_bytes subfields) first.1 marks.1 (subfields_written subfields parts.1))

-- a written field ends with its only field terminator
pub field_ends_once : (f : Field) → is_field f ≡ true → ends_once field_terminator (field_bytes f) ≡ true
unfolding field_bytes
field_ends_once f valid =
    let mark : IsTerminator field_terminator = record { least = lit≤ tt; most = lit≤ tt } in
    ends_once_behind field_terminator (field_data f) (field_data_has_none field_terminator f mark valid)
