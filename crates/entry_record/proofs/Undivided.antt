-- A field without subdivisions has its base part as its full part.
use Rattle.std.proofs.Common.{◌≡◌, ℕ, ◌≤◌, ◌+◌, Bool, true, false, ◌&&◌, List, [], ◌∷◌, filter, length, Some, None, unwrap_or, cond, refl, sym, ap, ◌∙◌, arith}
use Rattle.std.specs.Prelude.{if◌then◌else◌}
use Rattle.std.specs.List.{list_any}
use Rattle.std.specs.Option.{option_map}
use Rattle.std.proofs.lemmas.Bool.{or_parts}
use Rattle.marc_types.specs.Valid.{field_size, subfields_size}
use Rattle.marc_types.specs.declared.field.Subfield.{Subfield}
use Rattle.marc_types.specs.declared.field.Field.{Field}
use Rattle.marc_types.specs.declared.field.Field.TheVariants.{Control, Variable}
use Rattle.marc_types.specs.declared.key.Class.{Class}
use Rattle.marc_types.specs.declared.key.Class.TheVariants.{Authority}
use Rattle.marc_types.specs.declared.form.Kind.{Kind}
use Rattle.marc_types.specs.declared.form.Form.{Form}
use Rattle.heading_fields.specs.Tables.{is_subdividable}
use Rattle.heading_fields.specs.Parts.{before, is_dividing, is_subdivided, is_part, part, base_part, full_part}
use Rattle.marc_types.specs.Fields.{tag_of, subfields_of}
use Rattle.heading_fields.proofs.Codes.{undivided_part}
use Rattle.heading_fields.proofs.Slices.{size_region}
use Rattle.naco_form.specs.Form.{form_of}
use Rattle.entry_record.specs.Authority.{base_form, full_form, has_form}
use Rattle.entry_record.specs.Headings.{is_divided, divided_form, forms_of_kind, filled_forms, filled_full_form}
use Rattle.entry_record.specs.declared.headings.HeadingForms.{HeadingForms}

whole_of_bare : (kind : Kind) (subs : List Subfield) → list_any is_dividing subs ≡ false →
    filter (is_part true kind) subs ≡ filter (is_part false kind) (before is_dividing subs)
whole_of_bare kind [] h = refl
whole_of_bare kind (s ∷ ss) h =
    let first : is_dividing s ≡ false = (or_parts (is_dividing s) (list_any is_dividing ss) h).0 in
    let front : before is_dividing (s ∷ ss) ≡ s ∷ before is_dividing ss = ap (λ b. if b then [] else s ∷ before is_dividing ss) first in
    ap (λ b. cond b (s ∷ filter (is_part true kind) ss) (filter (is_part true kind) ss)) (undivided_part kind s first)
    ∙ ap (λ l. cond (is_part false kind s) (s ∷ l) l) (whole_of_bare kind ss (or_parts (is_dividing s) (list_any is_dividing ss) h).1)
    ∙ sym (ap (filter (is_part false kind)) front)

part_of_bare : (b : Bool) (kind : Kind) (subs : List Subfield) → (b && is_subdivided subs) ≡ false → part b kind subs ≡ part false kind subs
unfolding part
part_of_bare true kind subs h = whole_of_bare kind subs h
part_of_bare false kind subs h = refl

full_undivided : (kind : Kind) (class : Class) (f : Field) → is_divided class f ≡ false → full_part kind class f ≡ base_part kind f
full_undivided kind class f h = part_of_bare (is_subdividable class (tag_of f)) kind (subfields_of f) h

pub undivided_size : (kind : Kind) (class : Class) (f : Field) → is_divided class f ≡ false →
    subfields_size (full_part kind class f) ≡ subfields_size (base_part kind f)
undivided_size kind class f h = ap subfields_size (full_undivided kind class f h)

size_kept : (b : Bool) (s : Subfield) (l : List Subfield) (n : ℕ) → subfields_size l ≤ n → subfields_size (cond b (s ∷ l) l) ≤ 2 + length s.text + n
size_kept true s l n h = omega arith
size_kept false s l n h = omega arith

size_filter : (p : Subfield → Bool) (subs : List Subfield) → subfields_size (filter p subs) ≤ subfields_size subs
size_filter p [] = omega arith
size_filter p (s ∷ ss) = size_kept (p s) s (filter p ss) (subfields_size ss) (size_filter p ss)

size_whole : (f : Field) → subfields_size (subfields_of f) ≤ field_size f
unfolding field_size
size_whole (Control tag text) = omega arith
size_whole (Variable tag ind1 ind2 subs) = omega arith

size_part : (b : Bool) (kind : Kind) (f : Field) → subfields_size (part b kind (subfields_of f)) ≤ field_size f
unfolding part
size_part true kind f = omega (arith, size_filter (is_part true kind) (subfields_of f), size_whole f)
size_part false kind f = omega (arith, size_filter (is_part false kind) (before is_dividing (subfields_of f)), size_region f)

pub full_small : (kind : Kind) (class : Class) (f : Field) → subfields_size (full_part kind class f) ≤ field_size f
full_small kind class f = size_part (is_subdividable class (tag_of f)) kind f

either_form : (b : Bool) (whole base : Form) → (b ≡ false → base ≡ whole) → unwrap_or (if b then Some whole else None) base ≡ whole
either_form true whole base h = refl
either_form false whole base h = h refl

-- the full form is the base form where there is no other
pub full_either : (kind : Kind) (class : Class) (f : Field) → unwrap_or (divided_form kind class f) (base_form kind f) ≡ full_form kind class f
full_either kind class f =
    either_form (is_divided class f) (full_form kind class f) (base_form kind f) (λ h. ap (form_of kind) (sym (full_undivided kind class f h)))

filled_by : (b : Bool) (f : Field) (kind : Kind) (forms : HeadingForms) → Some forms ≡ option_map (forms_of_kind Authority f) (if b then Some kind else None) →
    Some (unwrap_or forms.divided forms.base) ≡ (if b then Some (full_form kind Authority f) else None)
filled_by true f kind forms e =
    let same : forms ≡ forms_of_kind Authority f kind = cc in
    ap (λ (g : HeadingForms). Some (unwrap_or g.divided g.base)) same ∙ ap (λ g. Some g) (full_either kind Authority f)
filled_by false f kind forms e = cc

filled_not : (b : Bool) (f : Field) (kind : Kind) → None ≡ option_map (forms_of_kind Authority f) (if b then Some kind else None) →
    None ≡ (if b then Some (full_form kind Authority f) else None)
filled_not true f kind e = cc
filled_not false f kind e = refl

pub filled_some : (f : Field) (kind : Kind) (forms : HeadingForms) → Some forms ≡ filled_forms Authority f (Some kind) →
    Some (unwrap_or forms.divided forms.base) ≡ filled_full_form f kind
unfolding filled_forms
filled_some f kind forms e = filled_by (has_form f kind) f kind forms e

pub filled_none : (f : Field) (kind : Kind) → None ≡ filled_forms Authority f (Some kind) → None ≡ filled_full_form f kind
unfolding filled_forms
filled_none f kind e = filled_not (has_form f kind) f kind e
