-- What is kept of an entry, as its readers want it.
use Rattle.std.proofs.Common.{◌≡◌, ℕ, zero, suc, List, [], ◌∷◌, map, slice_get, Option, Some, None, option_and_then, unwrap_or, refl, ap, ◌∙◌}
use Rattle.std.specs.Option.{option_map}
use Rattle.marc_types.specs.declared.field.Field.{Field}
use Rattle.marc_types.specs.declared.key.Class.{Class}
use Rattle.marc_types.specs.declared.form.Kind.{Kind}
use Rattle.marc_types.specs.declared.entry.Entry.{Entry}
use Rattle.entry_record.specs.Authority.{base_form, full_form, heading_kind}
use Rattle.entry_record.specs.Headings.{forms_of_kind, filled_forms, heading_forms}
use Rattle.entry_record.specs.Prepared.{heading_base_form, heading_full_form, field_form_of, full_form_of}
use Rattle.entry_record.specs.declared.headings.HeadingForms.{HeadingForms}
use Rattle.entry_record.proofs.Undivided.{full_either}

pub forms_found : (class : Class) (fields : List Field) (i : ℕ) →
    option_and_then (λ forms. forms) (slice_get (map (heading_forms class) fields) i) ≡ option_and_then (heading_forms class) (slice_get fields i)
forms_found class [] i = refl
forms_found class (f ∷ fs) zero = refl
forms_found class (f ∷ fs) (suc i) = forms_found class fs i

base_by : (o : Option Kind) (class : Class) (f : Field) (forms : HeadingForms) → Some forms ≡ option_map (forms_of_kind class f) o →
    Some forms.base ≡ option_map (λ kind. base_form kind f) o
base_by (Some kind) class f forms e = let same : forms ≡ forms_of_kind class f kind = cc in ap (λ (g : HeadingForms). Some g.base) same
base_by None class f forms e = cc

full_by : (o : Option Kind) (class : Class) (f : Field) (forms : HeadingForms) → Some forms ≡ option_map (forms_of_kind class f) o →
    Some (unwrap_or forms.divided forms.base) ≡ option_map (λ kind. full_form kind class f) o
full_by (Some kind) class f forms e =
    let same : forms ≡ forms_of_kind class f kind = cc in
    ap (λ (g : HeadingForms). Some (unwrap_or g.divided g.base)) same ∙ ap (λ g. Some g) (full_either kind class f)
full_by None class f forms e = cc

none_by : (o : Option Kind) (class : Class) (f : Field) → None ≡ option_map (forms_of_kind class f) o → None ≡ o
none_by (Some kind) class f e = cc
none_by None class f e = refl

base_of_forms : (class : Class) (f : Field) (forms : HeadingForms) → Some forms ≡ heading_forms class f → Some forms.base ≡ heading_base_form class f
unfolding filled_forms heading_kind
base_of_forms class f forms e = base_by _ class f forms e

full_of_forms : (class : Class) (f : Field) (forms : HeadingForms) → Some forms ≡ heading_forms class f → Some (unwrap_or forms.divided forms.base) ≡ heading_full_form class f
unfolding filled_forms heading_kind
full_of_forms class f forms e = full_by _ class f forms e

kindless : (class : Class) (f : Field) → None ≡ heading_forms class f → None ≡ heading_kind class f
unfolding filled_forms heading_kind
kindless class f e = none_by _ class f e

base_in : (o : Option Field) (class : Class) (forms : HeadingForms) → Some forms ≡ option_and_then (heading_forms class) o → Some forms.base ≡ option_and_then (heading_base_form class) o
base_in (Some f) class forms e = base_of_forms class f forms e
base_in None class forms e = cc

full_in : (o : Option Field) (class : Class) (forms : HeadingForms) → Some forms ≡ option_and_then (heading_forms class) o →
    Some (unwrap_or forms.divided forms.base) ≡ option_and_then (heading_full_form class) o
full_in (Some f) class forms e = full_of_forms class f forms e
full_in None class forms e = cc

no_base_in : (o : Option Field) (class : Class) → None ≡ option_and_then (heading_forms class) o → None ≡ option_and_then (heading_base_form class) o
no_base_in (Some f) class e = ap (λ o. option_map (λ kind. base_form kind f) o) (kindless class f e)
no_base_in None class e = refl

no_full_in : (o : Option Field) (class : Class) → None ≡ option_and_then (heading_forms class) o → None ≡ option_and_then (heading_full_form class) o
no_full_in (Some f) class e = ap (λ o. option_map (λ kind. full_form kind class f) o) (kindless class f e)
no_full_in None class e = refl

pub base_at : (e : Entry) (i : ℕ) (forms : HeadingForms) → Some forms ≡ option_and_then (heading_forms e.class) (slice_get e.rec.fields i) → Some forms.base ≡ field_form_of e i
unfolding field_form_of
base_at e i forms h = base_in (slice_get e.rec.fields i) e.class forms h

pub full_at : (e : Entry) (i : ℕ) (forms : HeadingForms) → Some forms ≡ option_and_then (heading_forms e.class) (slice_get e.rec.fields i) →
    Some (unwrap_or forms.divided forms.base) ≡ full_form_of e i
unfolding full_form_of
full_at e i forms h = full_in (slice_get e.rec.fields i) e.class forms h

pub no_base_at : (e : Entry) (i : ℕ) → None ≡ option_and_then (heading_forms e.class) (slice_get e.rec.fields i) → None ≡ field_form_of e i
unfolding field_form_of
no_base_at e i h = no_base_in (slice_get e.rec.fields i) e.class h

pub no_full_at : (e : Entry) (i : ℕ) → None ≡ option_and_then (heading_forms e.class) (slice_get e.rec.fields i) → None ≡ full_form_of e i
unfolding full_form_of
no_full_at e i h = no_full_in (slice_get e.rec.fields i) e.class h
