-- The linkable authorities of a state stay where only headings' fields change.
use Rattle.std.proofs.Common.{◌≡◌, ℕ, ◌==◌, Bool, true, false, cond, List, [], ◌∷◌, map, Option, Some, None, is_some, refl, sym, ap, ◌⊎◌, inl, inr, arith, if◌then◌else◌}
use Rattle.std.specs.Prelude.{filter, filter_map}
use Rattle.marc_types.specs.declared.field.Field.{Field}
use Rattle.marc_types.specs.declared.field.Field.TheVariants.{Control, Variable}
use Rattle.marc_types.specs.declared.field.Tag.{Tag}
use Rattle.marc_types.specs.declared.key.Class.TheVariants.{Authority}
use Rattle.marc_types.specs.declared.key.Key.{Key}
use Rattle.marc_types.specs.declared.form.Kind.{Kind}
use Rattle.heading_fields.specs.Tables.{any_kind, kind_by_tag, kind_of}
use Rattle.marc_types.specs.Fields.{tag_of}
use Rattle.entry_record.specs.Authority.{Linkable, is_heading, is_see_from, heading_of, has_form, option_filter, heading_kind, is_heading_field, is_tracing_of, see_from_forms, linkable_of, linkable_by, linkable_with, linkable_kind, full_form}
use Rattle.catalogue_rules.specs.State.{KeptField, Row, row_linkable, each_in_row}
use Rattle.catalogue_rules.proofs.Elements.{Each}

-- a field that stays, or one that is a 5XX before and after
abbrev pub IsSteady : Field → Field → Type 0
IsSteady f g = (f ≡ g) ⊎ (((tag_of f).a ≡ 53) × ((tag_of g).a ≡ 53))

no_heading : (f : Field) → (tag_of f).a ≡ 53 → is_heading f ≡ false
no_heading f e = rw e refl

no_see_from : (f : Field) → (tag_of f).a ≡ 53 → is_see_from f ≡ false
no_see_from f e = rw e refl

heading_at : (f g : Field) (o p : Option Field) → IsSteady f g → o ≡ p → cond (is_heading f) (Some f) o ≡ cond (is_heading g) (Some g) p
heading_at f g o p (inl e) ih = rw (e, ih) refl
heading_at f g o p (inr b) ih = rw (no_heading f b.0, no_heading g b.1) ih

pub heading_stays : (change : KeptField → KeptField) (hs : List KeptField) → Each (λ h. IsSteady h.field (change h).field) hs →
    heading_of (map (λ h. h.field) hs) ≡ heading_of (map (λ h. h.field) (map change hs))
heading_stays change [] a = refl
heading_stays change (h ∷ hs) a = heading_at h.field (change h).field _ _ a.0 (heading_stays change hs a.1)

tracings_at : (kind : Kind) (f g : Field) (fs gs : List Field) → IsSteady f g → fs ≡ gs →
    cond (is_tracing_of kind f) (f ∷ fs) fs ≡ cond (is_tracing_of kind g) (g ∷ gs) gs
tracings_at kind f g fs gs (inl e) ih = rw (e, ih) refl
tracings_at kind f g fs gs (inr b) ih = rw (no_see_from f b.0, no_see_from g b.1) ih

tracings_stay : (change : KeptField → KeptField) (kind : Kind) (hs : List KeptField) → Each (λ h. IsSteady h.field (change h).field) hs →
    filter (is_tracing_of kind) (map (λ h. h.field) hs) ≡ filter (is_tracing_of kind) (map (λ h. h.field) (map change hs))
tracings_stay change kind [] a = refl
tracings_stay change kind (h ∷ hs) a = tracings_at kind h.field (change h).field _ _ a.0 (tracings_stay change kind hs a.1)

linkable_at : (key : Key) (fs gs : List Field) (o p : Option Field) → o ≡ p → ((kind : Kind) → see_from_forms kind fs ≡ see_from_forms kind gs) →
    elim o as (λ _. Option Linkable) [ None ↦ None | Some f ↦ linkable_by key fs f ] ≡ elim p as (λ _. Option Linkable) [ None ↦ None | Some f ↦ linkable_by key gs f ]
linkable_at key fs gs o p e same = rw e (by p)
  where
    kinds : (f : Field) (k : Option Kind) → elim k as (λ _. Option Linkable) [ None ↦ None | Some kind ↦ Some (linkable_with key fs f kind) ] ≡ elim k as (λ _. Option Linkable) [ None ↦ None | Some kind ↦ Some (linkable_with key gs f kind) ]
    kinds f None = refl
    kinds f (Some kind) = λ i. Some (record { key = key; kind = kind; heading = f; established = full_form kind Authority f; see_from = same kind i })

    by : (p : Option Field) → elim p as (λ _. Option Linkable) [ None ↦ None | Some f ↦ linkable_by key fs f ] ≡ elim p as (λ _. Option Linkable) [ None ↦ None | Some f ↦ linkable_by key gs f ]
    by None = refl
    by (Some f) = kinds f (linkable_kind f)

-- a record whose fields are steady is linkable as before
pub linkable_stays : (change : KeptField → KeptField) (row : Row) → Each (λ h. IsSteady h.field (change h).field) row.1.fields →
    row_linkable (each_in_row change row) ≡ row_linkable row
unfolding linkable_of see_from_forms
linkable_stays change row a =
    let before = map (λ (h : KeptField). h.field) row.1.fields in
    let after = map (λ (h : KeptField). h.field) (map change row.1.fields) in
    sym (linkable_at row.0 before after (heading_of before) (heading_of after) (heading_stays change row.1.fields a)
    (λ kind. ap (λ fs. map (full_form kind Authority) fs) (tracings_stay change kind row.1.fields a)))

-- and so the linkable authorities stay
pub linkables_stay : (change : KeptField → KeptField) (rows : List Row) → Each (λ (row : Row). Each (λ h. IsSteady h.field (change h).field) row.1.fields) rows →
    filter_map row_linkable (map (each_in_row change) rows) ≡ filter_map row_linkable rows
linkables_stay change [] a = refl
linkables_stay change (row ∷ rows) a = rw (linkable_stays change row a.0, linkables_stay change rows a.1) refl

tag_by : (t : Tag) (ind2 : ℕ) (b : Bool) (kind : Kind) → (t.a == 53) ≡ b → (if b then any_kind t.b t.c else None) ≡ Some kind → t.a ≡ 53
tag_by t ind2 true kind e h = grind (arith, e)
tag_by t ind2 false kind e h = cc

kind_tag : (f : Field) (kind : Kind) → kind_of Authority f ≡ Some kind → (tag_of f).a ≡ 53
unfolding kind_by_tag
kind_tag (Control tag text) kind h = cc
kind_tag (Variable tag ind1 ind2 subs) kind h = tag_by tag ind2 (tag.a == 53) kind refl h

heading_tag_by : (f : Field) (o : Option Kind) → kind_of Authority f ≡ o → is_some (option_filter (has_form f) o) ≡ true → (tag_of f).a ≡ 53
heading_tag_by f None e h = cc
heading_tag_by f (Some kind) e h = kind_tag f kind e

-- the heading fields of an authority record are 5XX
pub heading_tag : (f : Field) → is_heading_field Authority f ≡ true → (tag_of f).a ≡ 53
unfolding heading_kind
heading_tag f h = heading_tag_by f (kind_of Authority f) refl h
