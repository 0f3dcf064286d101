-- What the stages do where there is nothing to do, and what stands in the place of the committed record.
use Rattle.std.proofs.Common.{◌≡◌, ◌∙◌, sym, ap, refl, subst, ℕ, Bool, true, false, cond, List, [], ◌∷◌, map, Option, Some, None}
use Rattle.std.specs.Prelude.{◌&&◌, if◌then◌else◌, not, option_and_then}
use Rattle.std.specs.Map.{lookup}
use Rattle.std.specs.Option.{option_map, option_map_or}
use Rattle.std.specs.BTreeMap.{insert_entry}
use Rattle.std.specs.Map.{remove_entry}
use Rattle.marc_types.specs.Order.{key_cmp, same_key}
use Rattle.marc_types.specs.declared.entry.Entry.{Entry}
use Rattle.marc_types.specs.declared.key.Class.{Class}
use Rattle.marc_types.specs.declared.key.Class.TheVariants.{Authority, Bibliographic}
use Rattle.marc_types.specs.declared.key.Key.{Key}
use Rattle.marc_types.specs.Valid.{is_number}
use Rattle.marc_types.specs.declared.field.Field.{Field}
use Rattle.marc_types.specs.Fields.{subfields_of}
use Rattle.marc_types.specs.declared.form.Form.{Form}
use Rattle.marc_types.specs.declared.form.Kind.{Kind}
use Rattle.heading_fields.specs.Parts.{full_part, is_subdivided}
use Rattle.entry_record.specs.Authority.{Linkable, full_form, heading_of, is_valid_key, linkable_by, linkable_kind, linkable_of, linkable_with}
use Rattle.entry_record.specs.History.{IsAdmitted}
use Rattle.entry_record.specs.Identity.{is_deletion}
use Rattle.entry_record.specs.Prepared.{authority_in, established_in, established_of, has_bare_heading}
use Rattle.catalogue_rules.specs.Receipt.{Standing, is_ambiguous, is_linked, is_unlinked, kept_under}
use Rattle.catalogue_rules.proofs.Fit.{formed_of}
use Rattle.catalogue_rules.proofs.States.{fit_entry}
use Rattle.linking_laws.specs.Middle.{IsMiddle}
use Rattle.linked_store.specs.Linked.{Linked, key_of}
use Rattle.commit_stages.proofs.Turning.{ahead_itself}
use Rattle.commit_stages.specs.OwnFields.{AreAsCame, HasFieldsAsCame, IsOwnSettled, fields_in}
use Rattle.commit_stages.proofs.SettledFields.{with_all}
use Rattle.commit_stages.specs.Counted.{AreCountsOf, count_settled}
use Rattle.commit_stages.specs.declared.counts.HeadingCounts.{HeadingCounts}
use Rattle.commit_stages.specs.Stages.{AreCountsBrought, IsBrought, stand_brought}
use Rattle.catalogue_rules.specs.Settle.{Arrival, arrival_of, place, settle_field}
use Rattle.catalogue_rules.specs.State.{KeptField, KeptRecord, Row, State, each_field, each_in_row, fields_of, linkable_authorities, new_field, new_record}
use Rattle.catalogue_rules.specs.Valid.{IsAscending}
use Rattle.catalogue_tables.specs.Following.{authority_brought}
use Rattle.numbered_store.specs.Rows.{with_row}
use Rattle.numbered_store.proofs.Ordered.{lookup_with_row, own_key}
use Rattle.linking_laws.specs.Stages.{in_own_row, settle_own}
use Rattle.linked_store.specs.Placing.{record_brought}
use Rattle.commit_stages.specs.Brought.{brought_as}
use Rattle.commit_stages.specs.declared.brought.BroughtHeading.{BroughtHeading}

-- ---- a change that changes nothing

same_rows : (change : KeptField → KeptField) → ((h : KeptField) → change h ≡ h) → (rows : List Row) → map (each_in_row change) rows ≡ rows
same_rows change same [] = refl
same_rows change same (row ∷ rows) = λ i. (row.0, record { leader = row.1.leader; fields = fields row.1.fields i }) ∷ same_rows change same rows i
  where
    fields : (hs : List KeptField) → map change hs ≡ hs
    fields [] = refl
    fields (h ∷ hs) = λ i. same h i ∷ fields hs i

pub same_state : (change : Class → KeptField → KeptField) (s : State) → ((class : Class) (h : KeptField) → change class h ≡ h) → each_field change s ≡ s
unfolding each_field
same_state change s same = λ i. record {
  authorities = same_rows (change Authority) (same Authority) s.authorities i;
  bibliographic = same_rows (change Bibliographic) (same Bibliographic) s.bibliographic i;
}

-- ---- the record in its place

placed_row : (a : Arrival) (rows : List Row) → place a rows ≡ with_row (Some a.key) (record_brought a) rows
unfolding place
placed_row a rows = at (is_deletion a.leader)
  where
    at : (b : Bool) → (if b then remove_entry (same_key a.key) rows else insert_entry key_cmp rows a.key (new_record a.leader a.fields))
        ≡ with_row (Some a.key) (if b then None else Some (new_record a.leader a.fields)) rows
    at true = refl
    at false = refl

pub stands_placed : (a : Arrival) (rows : List Row) → IsAscending rows → lookup (same_key a.key) (place a rows) ≡ record_brought a
stands_placed a rows order =
    ap (lookup (same_key a.key)) (placed_row a rows) ∙ lookup_with_row a.key a.key (record_brought a) rows order
    ∙ ap (λ (b : Bool). cond b (record_brought a) (lookup (same_key a.key) rows)) (own_key a.key)

-- ---- own fields where there is no own record

absent_row : (change : KeptField → KeptField) (b : Bool) (row : Row) (rest now : List Row) (found : Option KeptRecord) → (found ≡ None → now ≡ rest) → cond b (Some row.1) found ≡ None
    → (if b then each_in_row change row else row) ∷ now ≡ row ∷ rest
absent_row change true row rest now found behind e = cc
absent_row change false row rest now found behind e = ap (λ (rows : List Row). row ∷ rows) (behind e)

absent_rows : (key : Key) (change : KeptField → KeptField) (rows : List Row) → lookup (same_key key) rows ≡ None → map (in_own_row key change) rows ≡ rows
absent_rows key change [] none = refl
absent_rows key change (row ∷ rows) none =
    absent_row change (same_key key row.0) row rows (map (in_own_row key change) rows) (lookup (same_key key) rows) (absent_rows key change rows) none

pub absent_settled : (all : List Linkable) (class : Class) (key : Key) (s : State) → kept_under class key s ≡ None → settle_own all class key s ≡ s
unfolding settle_own
absent_settled all Authority key s none = λ i. record { authorities = absent_rows key (settle_field all Authority) s.authorities none i; bibliographic = s.bibliographic }
absent_settled all Bibliographic key s none = λ i. record { authorities = s.authorities; bibliographic = absent_rows key (settle_field all Bibliographic) s.bibliographic none i }

-- ---- the heading that an entry brings

-- what the established form and the heading's bareness say of it
abbrev heading_with : Form → Bool → BroughtHeading
heading_with form bare = record { kind = form.kind; bare = bare }

brought_with : (key : Key) (fields : List Field) (f : Field) (form : Form) (bare : Bool) (o : Option Kind) → Some form ≡ established_in (option_map (linkable_with key fields f) o)
    → bare ≡ not (is_subdivided (subfields_of f)) → Some (heading_with form bare) ≡ option_map brought_as (option_map (linkable_with key fields f) o)
brought_with key fields f form bare None e is = cc
brought_with key fields f form bare (Some kind) e is =
    let same : form ≡ full_form kind Authority f = cc in
    let kind_is : form.kind ≡ kind = ap (λ (x : Form). x.kind) same ∙ formed_of kind (full_part kind Authority f) in
    λ i. Some (record { kind = kind_is i; bare = is i })

brought_of : (key : Key) (fields : List Field) (form : Form) (bare : Bool) (o : Option Field) → Some form ≡ established_in (option_and_then (linkable_by key fields) o)
    → bare ≡ option_map_or (λ f. not (is_subdivided (subfields_of f))) o true → Some (heading_with form bare) ≡ option_map brought_as (option_and_then (linkable_by key fields) o)
brought_of key fields form bare None e is = cc
brought_of key fields form bare (Some f) e is = brought_with key fields f form bare (linkable_kind f) e is

brought_linkable : (key : Key) (fields : List Field) (form : Form) (bare : Bool) → Some form ≡ established_in (linkable_of key fields) → bare ≡ has_bare_heading fields
    → Some (heading_with form bare) ≡ option_map brought_as (linkable_of key fields)
unfolding linkable_of
brought_linkable key fields form bare e is = brought_of key fields form bare (heading_of fields) e is

brought_in : (class : Class) (key : Key) (fields : List Field) (form : Form) (bare : Bool) → class ≡ Authority → Some form ≡ established_in (authority_in class key fields)
    → bare ≡ has_bare_heading fields → Some (heading_with form bare) ≡ option_map brought_as (linkable_of key fields)
brought_in Authority key fields form bare class e is = brought_linkable key fields form bare e is
brought_in Bibliographic key fields form bare class e is = cc

pub heading_brought : (e : Entry) (form : Form) (bare : Bool) → e.class ≡ Authority → is_deletion e.rec.leader ≡ false → Some form ≡ established_of e
    → bare ≡ has_bare_heading e.rec.fields → Some (heading_with form bare) ≡ option_map brought_as (authority_brought (arrival_of e))
heading_brought e form bare class stays made is =
    brought_in e.class e.key e.rec.fields form bare class made is
    ∙ sym (ap (λ (b : Bool). option_map brought_as (if b then None else linkable_of e.key e.rec.fields)) stays)

pub key_valid : (e : Entry) → IsAdmitted e → is_valid_key e.key ≡ true
key_valid e admitted = let fit = fit_entry e admitted in ap (λ b. b && is_number e.key.number) fit.code ∙ fit.number

-- ---- a deletion settles nothing

pub deletion_settled : (number : ℕ) (e : Entry) (x : Linked) → key_of e.class number x.keys ≡ e.key → IsBrought number e x → is_deletion e.rec.leader ≡ true → IsMiddle x.state
    → IsOwnSettled (linkable_authorities x.state) e.class e.key x x
deletion_settled number e x key came gone middle =
    let none : kept_under e.class e.key x.state ≡ None =
    ap (λ (k : Key). kept_under e.class k x.state) (sym key) ∙ came ∙ ap (λ (b : Bool). if b then None else Some (new_record e.rec.leader e.rec.fields)) gone in
    record {
      ahead = ahead_itself x;
      state = sym (absent_settled (linkable_authorities x.state) e.class e.key x.state none);
      middle = with_all x.state middle;
    }

pub counts_brought : (all : List Linkable) (e : Entry) (class : Class) (fields : List Field) → fields ≡ e.rec.fields → class ≡ e.class → is_deletion e.rec.leader ≡ false → (counts : HeadingCounts)
    → AreCountsOf all class fields counts → AreCountsBrought all e counts
counts_brought all e class fields fields_are class_is stays counts are =
    let so : (test : Standing → Bool) → count_settled test all class fields ≡ stand_brought test all e = λ test.
    (λ i. count_settled test all (class_is i) (fields_are i)) ∙ sym (ap {B = ℕ} (λ (b : Bool). if b then 0 else count_settled test all e.class e.rec.fields) stays) in
    record { linked = are.linked ∙ so is_linked; ambiguous = are.ambiguous ∙ so is_ambiguous; unlinked = are.unlinked ∙ so is_unlinked }

-- ---- a record as it came has its fields

pub came_there : (number : ℕ) (e : Entry) (x : Linked) → IsBrought number e x → is_deletion e.rec.leader ≡ false → HasFieldsAsCame e.class number e.rec.fields x
came_there number e x came stays =
    ap (option_map (λ (r : KeptRecord). r.fields)) (came ∙ ap (λ (b : Bool). if b then None else Some (new_record e.rec.leader e.rec.fields)) stays)

each_new : (fields : List Field) → map (λ (h : KeptField). h.field) (map new_field fields) ≡ fields
each_new [] = refl
each_new (f ∷ fields) = ap (λ (l : List Field). f ∷ l) (each_new fields)

pub fields_there : (number : ℕ) (e : Entry) (x : Linked) → IsBrought number e x → is_deletion e.rec.leader ≡ false → fields_in e.class number x ≡ e.rec.fields
fields_there number e x came stays =
    ap (λ (o : Option KeptRecord). option_map_or fields_of o []) (came ∙ ap (λ (b : Bool). if b then None else Some (new_record e.rec.leader e.rec.fields)) stays)
    ∙ each_new e.rec.fields

pub all_came : (number : ℕ) (e : Entry) (x : Linked) → IsBrought number e x → is_deletion e.rec.leader ≡ false → AreAsCame e.class number x
all_came number e x came stays =
    subst (λ (l : List Field). HasFieldsAsCame e.class number l x) (sym (fields_there number e x came stays)) (came_there number e x came stays)
