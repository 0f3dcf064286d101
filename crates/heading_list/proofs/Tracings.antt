-- Headings and tracings of an authority, case by case.
use Rattle.std.proofs.Common.{◌≡◌, ◌∙◌, ℕ, ◌+◌, ◌<◌, Bool, true, false, ◌&&◌, List, [], ◌∷◌, ◌++◌, map, filter, length, get_or, take, Option, Some, None, option_and_then, cond, refl, sym, ap, eqb-true}
use Rattle.std.specs.Prelude.{IsTrue, if◌then◌else◌, not, ◌↔◌}
use Rattle.std.specs.Option.{option_map, option_map_or}
use Rattle.std.proofs.lemmas.List.{take_more, map-append}
use Rattle.std.proofs.lemmas.List.Elements.{filter-append}
use Rattle.marc_types.specs.Fields.{tag_of}
use Rattle.marc_types.specs.Order.{kind_rank, kind_rank_same}
use Rattle.marc_types.specs.declared.entry.Entry.{Entry}
use Rattle.marc_types.specs.declared.field.Field.{Field}
use Rattle.marc_types.specs.declared.form.Form.{Form}
use Rattle.marc_types.specs.declared.form.Item.{Item}
use Rattle.marc_types.specs.declared.form.Kind.{Kind}
use Rattle.marc_types.specs.declared.key.Class.TheVariants.{Authority}
use Rattle.marc_types.specs.declared.key.Key.{Key}
use Rattle.marc_types.specs.declared.record.Record.{Record}
use Rattle.heading_fields.specs.Tables.{authority_kind_of}
use Rattle.naco_form.specs.Form.{form_of}
use Rattle.catalogue_rules.specs.State.{KeptRecord, fields_of}
use Rattle.entry_record.specs.Authority.{Linkable, base_form, full_form, has_form, has_no_item, heading_of, is_empty, is_kind, is_see_from, is_tracing_of, linkable_by, linkable_kind, linkable_of, linkable_with, option_filter, same_kind}
use Rattle.entry_record.specs.Headings.{is_tracing_tag}
use Rattle.entry_record.specs.Prepared.{established_in, established_of, kept_entry}
use Rattle.heading_list.specs.Rows.{coded_text, list_row, rows_of_authority, rows_of_linkable, tracing_row, tracing_rows}
use Rattle.heading_list.specs.declared.row.Role.TheVariants.{Established}

-- ---- whether a field is a tracing

of_kind : (b : Bool) (kind k : Kind) → same_kind kind k ≡ true → is_kind kind (if b then Some k else None) ≡ b
of_kind true kind k h = h
of_kind false kind k h = refl

of_other : (b : Bool) (kind k : Kind) → same_kind kind k ≡ false → is_kind kind (if b then Some k else None) ≡ false
of_other true kind k h = h
of_other false kind k h = refl

tagged : (a : Bool) (o : Option Kind) (kind : Kind) (f : Field) → (a && is_kind kind o) ≡ true → (a && is_kind kind (option_filter (has_form f) o)) ≡ has_form f kind
tagged true (Some k) kind f h =
    let same : kind ≡ k = kind_rank_same kind k (eqb-true (kind_rank kind) (kind_rank k) h) in
    of_kind (has_form f k) kind k h ∙ ap (has_form f) (sym same)
tagged true None kind f h = cc
tagged false o kind f h = cc

untagged : (a : Bool) (o : Option Kind) (kind : Kind) (f : Field) → (a && is_kind kind o) ≡ false → (a && is_kind kind (option_filter (has_form f) o)) ≡ false
untagged true (Some k) kind f h = of_other (has_form f k) kind k h
untagged true None kind f h = refl
untagged false o kind f h = refl

-- its tag is another
pub untraced : (kind : Kind) (f : Field) → is_tracing_tag kind f ≡ false → is_tracing_of kind f ≡ false
untraced kind f h = untagged (is_see_from f) (authority_kind_of (tag_of f)) kind f h

-- its tag is one of these, and its base form has an item or none
pub traced : (kind : Kind) (f : Field) → is_tracing_tag kind f ≡ true → is_tracing_of kind f ≡ has_form f kind
traced kind f h = tagged (is_see_from f) (authority_kind_of (tag_of f)) kind f h

no_item : (items : List Item) (b : Bool) → (IsTrue b ↔ (items ≡ [])) → b ≡ has_no_item items
no_item [] true h = refl
no_item [] false h = let is = h.1 refl in cc
no_item (item ∷ items) true h = let is = h.0 refl in cc
no_item (item ∷ items) false h = refl

-- and whether it has is told by that form
pub filled : (kind : Kind) (f : Field) (form : Form) (empty : Bool) → is_tracing_tag kind f ≡ true → (IsTrue empty ↔ (form.items ≡ [])) → form ≡ base_form kind f
    → not empty ≡ is_tracing_of kind f
unfolding has_form
filled kind f form empty h none is = ap not (no_item form.items empty none ∙ ap is_empty is) ∙ sym (traced kind f h)

-- ---- the rows of tracings

pub no_tracing : (key : Key) (kind : Kind) (f : Field) → is_tracing_of kind f ≡ false → [] ≡ tracing_rows key kind (f ∷ [])
unfolding tracing_rows
no_tracing key kind f isnt = sym (ap (λ b. map (tracing_row key kind) (cond b (f ∷ []) [])) isnt)

pub one_tracing : (key : Key) (kind : Kind) (f : Field) → is_tracing_of kind f ≡ true → tracing_row key kind f ∷ [] ≡ tracing_rows key kind (f ∷ [])
unfolding tracing_rows
one_tracing key kind f is = sym (ap (λ b. map (tracing_row key kind) (cond b (f ∷ []) [])) is)

pub no_tracings : (key : Key) (kind : Kind) → [] ≡ tracing_rows key kind []
unfolding tracing_rows
no_tracings key kind = refl

tracings_join : (key : Key) (kind : Kind) (fs gs : List Field) → tracing_rows key kind (fs ++ gs) ≡ tracing_rows key kind fs ++ tracing_rows key kind gs
unfolding tracing_rows
tracings_join key kind fs gs =
    ap (map (tracing_row key kind)) (filter-append (is_tracing_of kind) fs gs)
    ∙ map-append (tracing_row key kind) (filter (is_tracing_of kind) fs) (filter (is_tracing_of kind) gs)

pub tracings_more : (key : Key) (kind : Kind) (fs : List Field) (i : ℕ) (f : Field) → i < length fs → f ≡ get_or fs i f
    → tracing_rows key kind (take i fs) ++ tracing_rows key kind (f ∷ []) ≡ tracing_rows key kind (take (i + 1) fs)
tracings_more key kind fs i f h is =
    ap (λ g. tracing_rows key kind (take i fs) ++ tracing_rows key kind (g ∷ [])) is
    ∙ sym (ap (tracing_rows key kind) (take_more fs i f h) ∙ tracings_join key kind (take i fs) (get_or fs i f ∷ []))

-- ---- the rows of an authority

-- what is prepared of a kept record has its established form
pub established_here : (standing : Entry) (own key : Key) (rec : Record) (fields : List Field) → standing ≡ kept_entry Authority own rec → own ≡ key
    → rec.fields ≡ fields → established_of standing ≡ established_in (linkable_of key fields)
established_here standing own key rec fields is k f = ap established_of is ∙ (λ i. established_in (linkable_of (k i) (f i)))

-- an authority that fields can't be linked to has none
unlinkable_by : (o : Option Linkable) (fields : List Field) → None ≡ established_in o → [] ≡ option_map_or (rows_of_linkable fields) o []
unlinkable_by None fields none = refl
unlinkable_by (Some c) fields none = cc

pub no_rows : (key : Key) (kept : KeptRecord) → None ≡ established_in (linkable_of key (fields_of kept)) → [] ≡ rows_of_authority (key, kept)
unfolding rows_of_authority
no_rows key kept none = unlinkable_by (linkable_of key (fields_of kept)) (fields_of kept) none

pub their_rows : (key : Key) (kept : KeptRecord) (fields : List Field) → fields ≡ fields_of kept
    → option_map_or (rows_of_linkable fields) (linkable_of key fields) [] ≡ rows_of_authority (key, kept)
unfolding rows_of_authority
their_rows key kept fields same = ap (λ fields. option_map_or (rows_of_linkable fields) (linkable_of key fields) []) same

-- without a heading there is no established form
pub headless : (key : Key) (fields : List Field) (form : Form) → None ≡ heading_of fields → Some form ≡ established_in (linkable_of key fields) → ⊥
unfolding linkable_of
headless key fields form none has =
    let gone : Some form ≡ None = has ∙ sym (ap (λ o. established_in (option_and_then (linkable_by key fields) o)) none) in
    cc

rows_by : (o : Option Kind) (key : Key) (fields : List Field) (heading : Field) (form : Form)
    → Some form ≡ established_in (option_map (linkable_with key fields heading) o)
    → list_row form Established key (coded_text heading) ∷ tracing_rows key form.kind fields
    ≡ option_map_or (rows_of_linkable fields) (option_map (linkable_with key fields heading) o) []
unfolding form_of
rows_by (Some k) key fields heading form is =
    let same : form ≡ full_form k Authority heading = cc in
    ap (λ (f : Form). list_row f Established key (coded_text heading) ∷ tracing_rows key f.kind fields) same
rows_by None key fields heading form is = cc

-- the heading's row, and those of the tracings
pub rows_are : (key : Key) (fields : List Field) (heading : Field) (form : Form) → Some heading ≡ heading_of fields
    → Some form ≡ established_in (linkable_of key fields)
    → list_row form Established key (coded_text heading) ∷ tracing_rows key form.kind fields ≡ option_map_or (rows_of_linkable fields) (linkable_of key fields) []
unfolding linkable_of
rows_are key fields heading form found is =
    let by : linkable_of key fields ≡ linkable_by key fields heading = sym (ap (option_and_then (linkable_by key fields)) found) in
    rows_by (linkable_kind heading) key fields heading form (is ∙ ap established_in by)
    ∙ sym (ap (λ o. option_map_or (rows_of_linkable fields) o []) by)
