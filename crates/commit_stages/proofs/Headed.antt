-- The heading of a record that is visited, which is one as records have them, and how it is found by the tags.
use Rattle.std.proofs.Common.{◌≡◌, ◌∙◌, sym, ap, refl, ℕ, zero, suc, ◌<◌, arith, Bool, cond, List, [], ◌∷◌, map, length, Option, Some, None, true, false}
use Rattle.std.specs.Prelude.{◌==◌, IfSome, option_and_then, slice_get}
use Rattle.std.specs.List.{list_all}
use Rattle.std.specs.Option.{option_map, option_map_or}
use Rattle.std.proofs.lemmas.Bool.{and_parts}
use Rattle.marc_types.specs.Valid.{is_field, is_record}
use Rattle.marc_types.specs.Fields.{tag_of}
use Rattle.marc_types.specs.declared.field.Field.{Field}
use Rattle.marc_types.specs.declared.field.Leader.{Leader}
use Rattle.marc_types.specs.declared.field.Tag.{Tag}
use Rattle.marc_types.specs.declared.form.Kind.{Kind}
use Rattle.heading_fields.specs.Tables.{authority_kind_of}
use Rattle.entry_record.specs.Authority.{heading_of, is_heading}
use Rattle.catalogue_rules.specs.State.{KeptField, KeptRecord, fields_of}
use Rattle.catalogue_rules.proofs.Elements.{Each, find_found}
use Rattle.catalogue_rules.specs.Store.{field_at}
use Rattle.field_settling.specs.Held.{governing_of, with_kind}
use Rattle.commit_stages.specs.Headings.{HasNoHeadingBefore, IsFirstHeading, own_heading}
use Rattle.commit_stages.specs.declared.heading.OwnHeading.{OwnHeading}

abbrev pub has_proper_field : Kind × Field → Type 0
has_proper_field heading = is_field heading.1 ≡ true

each_passing : (fields : List Field) → list_all is_field fields ≡ true → Each (λ f. is_field f ≡ true) fields
each_passing [] h = tt
each_passing (f ∷ fields) h = let both = and_parts (is_field f) (list_all is_field fields) h in (both.0, each_passing fields both.1)

record_fields : (leader : Leader) (fields : List Field) → is_record leader fields ≡ true → Each (λ f. is_field f ≡ true) fields
unfolding is_record
record_fields leader fields h = each_passing fields (and_parts _ (list_all is_field fields) (and_parts _ _ (and_parts _ _ h).0).0).1

kind_proper : (f : Field) (kind : Option Kind) → is_field f ≡ true → IfSome (option_map (λ k. (k, f)) kind) has_proper_field
kind_proper f None good = tt
kind_proper f (Some kind) good = good

governing_proper : (fields : List Field) (o : Option Field) → ((f : Field) → o ≡ Some f → is_field f ≡ true) → IfSome (option_and_then with_kind o) has_proper_field
governing_proper fields None good = tt
governing_proper fields (Some f) good = kind_proper f (authority_kind_of (tag_of f)) (good f refl)

record_heading : (r : KeptRecord) → is_record r.leader (fields_of r) ≡ true → IfSome (governing_of (fields_of r)) has_proper_field
record_heading r proper =
    governing_proper (fields_of r) (heading_of (fields_of r))
    (λ f found. (find_found (λ g. is_field g ≡ true) is_heading (fields_of r) f (record_fields r.leader (fields_of r) proper) found).0)

pub heading_proper : (o : Option KeptRecord) → IfSome o (λ (r : KeptRecord). is_record r.leader (fields_of r) ≡ true)
    → IfSome (option_and_then (λ (r : KeptRecord). governing_of (fields_of r)) o) has_proper_field
heading_proper None proper = tt
heading_proper (Some r) proper = record_heading r proper

pub heading_read : (r : KeptRecord) (o : Option KeptRecord) → Some r ≡ o → governing_of (fields_of r) ≡ option_and_then (λ (x : KeptRecord). governing_of (fields_of x)) o
heading_read r o e = ap (option_and_then (λ (x : KeptRecord). governing_of (fields_of x))) e

pub no_heading : (o : Option KeptRecord) → None ≡ o → None ≡ option_and_then (λ (r : KeptRecord). governing_of (fields_of r)) o
no_heading o e = ap (option_and_then (λ (r : KeptRecord). governing_of (fields_of r))) e

-- ---- the first heading, by its place

pub tag_tells : (o : Option KeptField) (tag : Tag) → Some tag ≡ option_map (λ (h : KeptField). tag_of h.field) o → (tag.a == 49) ≡ option_map_or (λ (h : KeptField). is_heading h.field) o false
tag_tells None tag is = cc
tag_tells (Some h) tag is = let same : tag ≡ tag_of h.field = cc in ap (λ (t : Tag). t.a == 49) same

pub no_tag_tells : (o : Option KeptField) → None ≡ option_map (λ (h : KeptField). tag_of h.field) o → false ≡ option_map_or (λ (h : KeptField). is_heading h.field) o false
no_tag_tells None off = refl
no_tag_tells (Some h) off = cc

first_by : (hs : List KeptField) (n : ℕ) → option_map_or (λ (h : KeptField). is_heading h.field) (slice_get hs n) false ≡ true
    → ((i : ℕ) → i < n → option_map_or (λ (h : KeptField). is_heading h.field) (slice_get hs i) false ≡ false)
    → option_map (λ (h : KeptField). h.field) (slice_get hs n) ≡ heading_of (map (λ (h : KeptField). h.field) hs)
first_by [] n is none = cc
first_by (h ∷ hs) zero is none = sym (ap (λ (b : Bool). cond b (Some h.field) (heading_of (map (λ (g : KeptField). g.field) hs))) is)
first_by (h ∷ hs) (suc n) is none =
    first_by hs n is (λ i low. none (suc i) (omega (arith, low)))
    ∙ sym (ap (λ (b : Bool). cond b (Some h.field) (heading_of (map (λ (g : KeptField). g.field) hs))) (none zero (omega arith)))

none_by : (hs : List KeptField) → ((i : ℕ) → i < length hs → option_map_or (λ (h : KeptField). is_heading h.field) (slice_get hs i) false ≡ false)
    → None ≡ heading_of (map (λ (h : KeptField). h.field) hs)
none_by [] none = refl
none_by (h ∷ hs) none =
    none_by hs (λ i low. none (suc i) (omega (arith, low)))
    ∙ sym (ap (λ (b : Bool). cond b (Some h.field) (heading_of (map (λ (g : KeptField). g.field) hs))) (none zero (omega arith)))

-- the field at the place of the first heading is the heading
pub first_found : (r : KeptRecord) (place : ℕ) → IsFirstHeading r place → option_map (λ (h : KeptField). h.field) (field_at place r) ≡ heading_of (fields_of r)
first_found r place first = first_by r.fields place first.is first.none_before

pub none_found : (r : KeptRecord) → HasNoHeadingBefore r (length r.fields) → None ≡ heading_of (fields_of r)
none_found r none = none_by r.fields none

pub governing_first : (r : KeptRecord) (place : ℕ) (heading : Option (Kind × Field)) → IsFirstHeading r place
    → heading ≡ option_and_then with_kind (option_map (λ (h : KeptField). h.field) (field_at place r)) → heading ≡ governing_of (fields_of r)
governing_first r place heading first is = is ∙ ap (option_and_then with_kind) (first_found r place first)

pub governing_none : (r : KeptRecord) → HasNoHeadingBefore r (length r.fields) → None ≡ governing_of (fields_of r)
governing_none r none = ap (option_and_then with_kind) (none_found r none)

-- ---- the field at a place, with its kind

pub untagged_kind : (o : Option KeptField) → None ≡ option_map (λ (h : KeptField). tag_of h.field) o → None ≡ option_and_then with_kind (option_map (λ (h : KeptField). h.field) o)
untagged_kind None off = refl
untagged_kind (Some h) off = cc

pub unkind : (o : Option KeptField) (tag : Tag) → Some tag ≡ option_map (λ (h : KeptField). tag_of h.field) o → None ≡ authority_kind_of tag
    → None ≡ option_and_then with_kind (option_map (λ (h : KeptField). h.field) o)
unkind None tag is none = cc
unkind (Some h) tag is none =
    let same : tag ≡ tag_of h.field = cc in
    ap (option_map (λ (kind : Kind). (kind, h.field))) (none ∙ ap authority_kind_of same)

pub kind_found : (o : Option KeptField) (tag : Tag) (kind : Kind) (field : Field) → Some tag ≡ option_map (λ (h : KeptField). tag_of h.field) o → Some kind ≡ authority_kind_of tag
    → Some field ≡ option_map (λ (h : KeptField). h.field) o → Some (kind, field) ≡ option_and_then with_kind (option_map (λ (h : KeptField). h.field) o)
kind_found None tag kind field is told there = cc
kind_found (Some h) tag kind field is told there =
    let same : tag ≡ tag_of h.field = cc in
    let own : field ≡ h.field = cc in
    ap (λ (f : Field). Some (kind, f)) own ∙ ap (option_map (λ (k : Kind). (k, h.field))) (told ∙ ap authority_kind_of same)

pub unfound : (o : Option KeptField) → None ≡ option_map (λ (h : KeptField). h.field) o → None ≡ option_and_then with_kind (option_map (λ (h : KeptField). h.field) o)
unfound o off = ap (option_and_then with_kind) off

-- ---- a heading that was decoded, lent

pub heading_lent : (under : Option (Kind × Field)) (given : Option OwnHeading) (own : OwnHeading) (heading : Kind × Field) → option_map own_heading given ≡ under → given ≡ Some own
    → heading ≡ own_heading own → Some heading ≡ under
heading_lent under given own heading is some lent = ap (λ (h : Kind × Field). Some h) lent ∙ sym (ap (option_map own_heading) some) ∙ is

pub no_heading_lent : (under : Option (Kind × Field)) (given : Option OwnHeading) → option_map own_heading given ≡ under → given ≡ None → None ≡ under
no_heading_lent under given is none = sym (ap (option_map own_heading) none) ∙ is
