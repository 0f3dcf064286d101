-- How an authority is found, case by case.
use Rattle.std.proofs.Common.{◌≡◌, ℕ, ◌+◌, ◌<◌, Bool, true, false, ◌&&◌, List, [], ◌∷◌, ◌++◌, map, filter, length, get_or, take, Option, Some, None, option_and_then, cond, refl, sym, ap, subst, ◌∙◌, eqb-true}
use Rattle.std.specs.Prelude.{if◌then◌else◌}
use Rattle.std.specs.Option.{option_map}
use Rattle.std.proofs.lemmas.List.{take_more, map-append, append-nil}
use Rattle.std.proofs.lemmas.List.Elements.{filter-append}
use Rattle.marc_types.specs.Order.{kind_rank, kind_rank_same}
use Rattle.marc_types.specs.declared.field.Field.{Field}
use Rattle.marc_types.specs.declared.key.Class.TheVariants.{Authority}
use Rattle.marc_types.specs.declared.key.Key.{Key}
use Rattle.marc_types.specs.declared.form.Kind.{Kind}
use Rattle.marc_types.specs.declared.form.Form.{Form}
use Rattle.heading_fields.specs.Tables.{authority_kind_of}
use Rattle.marc_types.specs.Fields.{tag_of}
use Rattle.naco_form.specs.Form.{form_of}
use Rattle.entry_record.specs.Authority.{Linkable, heading_of, full_form, has_form, option_filter, is_short_in_full, linkable_kind, linkable_with, linkable_by, linkable_of, is_see_from, is_kind, same_kind, is_tracing_of, see_from_forms}
use Rattle.entry_record.specs.Headings.{filled_full_form, established_form, is_tracing_tag}
use Rattle.entry_record.specs.Prepared.{established_in, see_from_in}
use Rattle.entry_record.specs.Access.{IsAccessTo}
use Rattle.entry_record.specs.declared.access.Access.{Access}

pub kindless : (h : Field) → None ≡ authority_kind_of (tag_of h) → None ≡ established_form h
unfolding linkable_kind
kindless h e = ap (λ o. option_map (λ kind. full_form kind Authority h) (option_filter (λ kind. has_form h kind && is_short_in_full h kind) o)) e

filled_and : (b s : Bool) (kind : Kind) (whole : Kind → Form) → true ≡ s → (if b then Some (whole kind) else None) ≡ option_map whole (if b && s then Some kind else None)
filled_and true true kind whole e = refl
filled_and true false kind whole e = cc
filled_and false s kind whole e = refl

none_and : (b s : Bool) (kind : Kind) (whole : Kind → Form) → false ≡ s → None ≡ option_map whole (if b && s then Some kind else None)
none_and true true kind whole e = cc
none_and true false kind whole e = refl
none_and false s kind whole e = refl

pub too_long : (h : Field) (kind : Kind) → Some kind ≡ authority_kind_of (tag_of h) → false ≡ is_short_in_full h kind → None ≡ established_form h
unfolding linkable_kind
too_long h kind e long =
    none_and (has_form h kind) (is_short_in_full h kind) kind (λ k. full_form k Authority h) long
    ∙ ap (λ o. option_map (λ k. full_form k Authority h) (option_filter (λ k. has_form h k && is_short_in_full h k) o)) e

pub short_enough : (h : Field) (kind : Kind) → Some kind ≡ authority_kind_of (tag_of h) → true ≡ is_short_in_full h kind → filled_full_form h kind ≡ established_form h
unfolding linkable_kind
short_enough h kind e short =
    filled_and (has_form h kind) (is_short_in_full h kind) kind (λ k. full_form k Authority h) short
    ∙ ap (λ o. option_map (λ k. full_form k Authority h) (option_filter (λ k. has_form h k && is_short_in_full h k) o)) e

kept_kind : (b : Bool) (kind k : Kind) → same_kind kind k ≡ true → is_kind kind (if b then Some k else None) ≡ b
kept_kind true kind k h = h
kept_kind false kind k h = refl

other_kind : (b : Bool) (kind k : Kind) → same_kind kind k ≡ false → is_kind kind (if b then Some k else None) ≡ false
other_kind true kind k h = h
other_kind false kind k h = refl

traced : (a : Bool) (o : Option Kind) (kind : Kind) (f : Field) → (a && is_kind kind o) ≡ true → (a && is_kind kind (option_filter (has_form f) o)) ≡ has_form f kind
traced true (Some k) kind f h =
    let same : kind ≡ k = kind_rank_same kind k (eqb-true (kind_rank kind) (kind_rank k) h) in
    kept_kind (has_form f k) kind k h ∙ ap (has_form f) (sym same)
traced true None kind f h = cc
traced false o kind f h = cc

untraced : (a : Bool) (o : Option Kind) (kind : Kind) (f : Field) → (a && is_kind kind o) ≡ false → (a && is_kind kind (option_filter (has_form f) o)) ≡ false
untraced true (Some k) kind f h = other_kind (has_form f k) kind k h
untraced true None kind f h = refl
untraced false o kind f h = refl

pub no_tracing : (kind : Kind) (f : Field) → is_tracing_tag kind f ≡ false → see_from_forms kind (f ∷ []) ≡ []
unfolding see_from_forms
no_tracing kind f h =
    ap (λ b. map (full_form kind Authority) (cond b (f ∷ []) [])) (untraced (is_see_from f) (authority_kind_of (tag_of f)) kind f h)

one_form : (b : Bool) (f : Field) (kind : Kind) (form : Form) → Some form ≡ (if b then Some (full_form kind Authority f) else None) →
    map (full_form kind Authority) (cond b (f ∷ []) []) ≡ form ∷ []
one_form true f kind form e = let same : full_form kind Authority f ≡ form = cc in ap (λ g. g ∷ []) same
one_form false f kind form e = cc

no_form : (b : Bool) (f : Field) (kind : Kind) → None ≡ (if b then Some (full_form kind Authority f) else None) →
    map (full_form kind Authority) (cond b (f ∷ []) []) ≡ []
no_form true f kind e = cc
no_form false f kind e = refl

pub one_tracing : (kind : Kind) (f : Field) (form : Form) → is_tracing_tag kind f ≡ true → Some form ≡ filled_full_form f kind →
    see_from_forms kind (f ∷ []) ≡ form ∷ []
unfolding see_from_forms
one_tracing kind f form h e =
    ap (λ b. map (full_form kind Authority) (cond b (f ∷ []) [])) (traced (is_see_from f) (authority_kind_of (tag_of f)) kind f h)
    ∙ one_form (has_form f kind) f kind form e

pub empty_tracing : (kind : Kind) (f : Field) → is_tracing_tag kind f ≡ true → None ≡ filled_full_form f kind → see_from_forms kind (f ∷ []) ≡ []
unfolding see_from_forms
empty_tracing kind f h e =
    ap (λ b. map (full_form kind Authority) (cond b (f ∷ []) [])) (traced (is_see_from f) (authority_kind_of (tag_of f)) kind f h)
    ∙ no_form (has_form f kind) f kind e

see_from-append : (kind : Kind) (xs ys : List Field) → see_from_forms kind (xs ++ ys) ≡ see_from_forms kind xs ++ see_from_forms kind ys
unfolding see_from_forms
see_from-append kind xs ys =
    ap (map (full_form kind Authority)) (filter-append (is_tracing_of kind) xs ys)
    ∙ map-append (full_form kind Authority) (filter (is_tracing_of kind) xs) (filter (is_tracing_of kind) ys)

pub tracings_more : (kind : Kind) (xs : List Field) (i : ℕ) (f : Field) → i < length xs →
    see_from_forms kind (take (i + 1) xs) ≡ see_from_forms kind (take i xs) ++ see_from_forms kind (get_or xs i f ∷ [])
tracings_more kind xs i f h = ap (see_from_forms kind) (take_more xs i f h) ∙ see_from-append kind (take i xs) (get_or xs i f ∷ [])

pub headless : (key : Key) (fields : List Field) → None ≡ heading_of fields → None ≡ linkable_of key fields
unfolding linkable_of
headless key fields e = ap (option_and_then (linkable_by key fields)) e

no_kind : (o : Option Kind) (key : Key) (fields : List Field) (h : Field) → None ≡ option_map (λ k. full_form k Authority h) o → None ≡ option_map (linkable_with key fields h) o
no_kind None key fields h e = refl
no_kind (Some k) key fields h e = cc

pub unlinkable : (key : Key) (fields : List Field) (h : Field) → Some h ≡ heading_of fields → None ≡ established_form h → None ≡ linkable_of key fields
unfolding linkable_of
unlinkable key fields h e none =
    no_kind (linkable_kind h) key fields h none ∙ ap (option_and_then (linkable_by key fields)) e

linked_by : (o : Option Kind) (key : Key) (fields : List Field) (h : Field) (form : Form) → Some form ≡ option_map (λ k. full_form k Authority h) o →
    (Some form ≡ established_in (option_map (linkable_with key fields h) o)) × (see_from_forms form.kind fields ≡ see_from_in (option_map (linkable_with key fields h) o))
unfolding form_of
linked_by (Some k) key fields h form e =
    let same : form ≡ full_form k Authority h = cc in (e, ap (λ (g : Form). see_from_forms g.kind fields) same)
linked_by None key fields h form e = (e, cc)

pub linked : (key : Key) (fields : List Field) (h : Field) (form : Form) → Some h ≡ heading_of fields → Some form ≡ established_form h →
    (Some form ≡ established_in (linkable_of key fields)) × (see_from_forms form.kind fields ≡ see_from_in (linkable_of key fields))
unfolding linkable_of
linked key fields h form e established =
    let both = linked_by (linkable_kind h) key fields h form established in
    let found : option_map (linkable_with key fields h) (linkable_kind h) ≡ option_and_then (linkable_by key fields) (heading_of fields) =
    ap (option_and_then (linkable_by key fields)) e in
    (both.0 ∙ ap established_in found, both.1 ∙ ap see_from_in found)

pub see_from_none : (kind : Kind) → [] ≡ see_from_forms kind []
unfolding see_from_forms
see_from_none kind = refl

pub append_none : (xs ys : List Form) → ys ≡ [] → xs ≡ xs ++ ys
append_none xs ys e = sym (ap (λ l. xs ++ l) e ∙ append-nil xs)

pub access_same : (authority : Option Linkable) (a : Access) → None ≡ authority → IsAccessTo None a → IsAccessTo authority a
access_same authority a e h = subst (λ o. IsAccessTo o a) e h
