-- A workload's fields are short, and so are its records.
use Rattle.std.proofs.Common.{ℕ, ◌*◌, ◌/◌, ◌<◌, ◌≤◌, ◌^◌, List, [], ◌∷◌, ◌++◌, length, codes, arith}
use Rattle.std.specs.List.{AllByRecursion}
use Rattle.std.specs.Fmt.{decimal}
use Rattle.marc_types.specs.declared.field.Tag.{Tag}
use Rattle.marc_types.specs.declared.field.Subfield.{Subfield}
use Rattle.marc_types.specs.declared.field.Field.{Field}
use Rattle.marc_types.specs.declared.field.Field.TheVariants.{Control, Variable}
use Rattle.marc_types.specs.Valid.{subfields_size}
use Rattle.iso2709_record.specs.Written.{field_length, fields_length, record_length}
use Rattle.iso2709_record.proofs.Lengths.{field_length-control, field_length-variable}
use Rattle.workload.specs.Records.{tag, blank, subfield, number_field, organisation_field, name_text, alias_text, name_field, author_field, title_field, authority_fields, linked_authority_fields, deletion_fields, bibliographic_fields}
use Rattle.workload.proofs.Plain.{plain_decimal}
use Rattle.workload.proofs.Sound.{plain_name, plain_alias}

-- fields of at most 60 bytes each
abbrev pub AreLight : List Field → Type 0
AreLight fs = AllByRecursion (λ f. field_length f ≤ 60) fs

-- a few light fields
pub record AreFewLight (fs : List Field) : Type 0 where
  pub few : length fs ≤ 5
  pub light : AreLight fs

light_length : (fs : List Field) → AreLight fs → fields_length fs ≤ 60 * length fs
light_length [] light = omega arith
light_length (f ∷ fs) light = let own = light.0 in omega (arith, light_length fs light.1)

-- 26 bytes around them, 12 for each in the directory, and 60 of its own
pub short_record : (fs : List Field) → AreFewLight fs → record_length fs ≤ 386
short_record fs sound = omega (arith, sound.few, light_length fs sound.light)

light_control : (t : Tag) (text : List ℕ) → length text ≤ 59 → field_length (Control t text) ≤ 60
light_control t text short = omega (arith, field_length-control t text)

light_variable : (t : Tag) (ind1 ind2 : ℕ) (subs : List Subfield) → subfields_size subs ≤ 57 → field_length (Variable t ind1 ind2 subs) ≤ 60
light_variable t ind1 ind2 subs short = omega (arith, field_length-variable t ind1 ind2 subs)

light_number : (letter n : ℕ) → n < 2 ^ 64 → field_length (number_field (letter ∷ []) n) ≤ 60
light_number letter n small =
    let digits = (plain_decimal n small).short in
    light_control (tag 0 0 1) (letter ∷ decimal n) (omega (arith, digits))

light_organisation : field_length organisation_field ≤ 60
light_organisation = light_control (tag 0 0 3) (codes "UCAT") (omega arith)

light_name : (t : Tag) (text : List ℕ) → length text ≤ 55 → field_length (name_field t text) ≤ 60
light_name t text short = light_variable t 49 blank (subfield 97 text ∷ []) (omega (arith, short))

light_alias : (t : Tag) (alias : ℕ) → alias < 2 ^ 64 → field_length (name_field t (alias_text alias)) ≤ 60
light_alias t alias small =
    let text = (plain_alias alias small).short in
    light_name t (alias_text alias) (omega (arith, text))

light_heading : (name variant : ℕ) → name < 2 ^ 64 → variant < 2 ^ 64 → field_length (name_field (tag 1 0 0) (name_text name variant)) ≤ 60
light_heading name variant first second =
    let text = (plain_name name variant first second).short in
    light_name (tag 1 0 0) (name_text name variant) (omega (arith, text))

pub authority_light : (name variant : ℕ) → name < 2 ^ 64 → variant < 2 ^ 64 → AreFewLight (authority_fields name variant)
unfolding authority_fields
authority_light name variant first second = record {
  few = omega arith;
  light = (light_number 97 name first, (light_organisation, (light_heading name variant first second, (light_alias (tag 4 0 0) (name / 2) (omega arith), tt))));
}

pub linked_light : (name variant other : ℕ) → name < 2 ^ 64 → variant < 2 ^ 64 → other < 2 ^ 64 → AreFewLight (linked_authority_fields name variant other)
unfolding authority_fields linked_authority_fields
linked_light name variant other first second third = record {
  few = omega arith;
  light = (light_number 97 name first, (light_organisation, (light_heading name variant first second, (light_alias (tag 4 0 0) (name / 2) (omega arith), (light_alias (tag 5 0 0) other third, tt)))));
}

pub deletion_light : (name : ℕ) → name < 2 ^ 64 → AreFewLight (deletion_fields name)
unfolding deletion_fields
deletion_light name small = record { few = omega arith; light = (light_number 97 name small, (light_organisation, tt)) }

light_author : (author : ℕ) → author < 2 ^ 64 → field_length (author_field author) ≤ 60
light_author author small =
    let text = (plain_alias author small).short in
    light_variable (tag 1 0 0) 49 blank (subfield 97 (alias_text author) ∷ subfield 101 (codes "author") ∷ []) (omega (arith, text))

light_title : (number : ℕ) → number < 2 ^ 64 → field_length (title_field number) ≤ 60
light_title number small =
    let digits = (plain_decimal number small).short in
    light_variable (tag 2 4 5) 48 48 (subfield 97 (codes "Title " ++ decimal number) ∷ []) (omega (arith, digits))

pub bibliographic_light : (number author : ℕ) → number < 2 ^ 64 → author < 2 ^ 64 → AreFewLight (bibliographic_fields number author)
unfolding bibliographic_fields
bibliographic_light number author first second = record {
  few = omega arith;
  light = (light_number 98 number first, (light_organisation, (light_author author second, (light_title number first, tt))));
}
