-- Settling twice is settling once.
use Rattle.std.proofs.Common.{◌≡◌, Bool, true, List, [], ◌∷◌, map, Option, Some, None, refl, ap, ◌∙◌, inl, inr}
use Rattle.std.specs.Prelude.{find, filter_map, All}
use Rattle.std.specs.Option.{option_map_or}
use Rattle.marc_types.specs.declared.key.Class.{Class}
use Rattle.marc_types.specs.declared.key.Class.TheVariants.{Authority, Bibliographic}
use Rattle.marc_types.specs.declared.key.Key.{Key}
use Rattle.marc_types.specs.declared.form.Kind.{Kind}
use Rattle.heading_fields.proofs.Fieldlaws.{rewriting_twice, tag_of_rewriting}
use Rattle.entry_record.specs.Authority.{Linkable, heading_kind, is_heading_field}
use Rattle.catalogue_rules.specs.State.{KeptField, Row, State, linkable_authorities, row_linkable, each_in_row, each_field}
use Rattle.catalogue_rules.specs.Choice.{Choice, Link, Ambiguous, Unlinked, has_key, choice}
use Rattle.catalogue_rules.specs.Settle.{link_to, take_choice, settle_linked, settle_unlinked, settle_field, settle}
use Rattle.catalogue_rules.specs.Valid.{IsAscending, IsRow, IsLinkOfHeading, IsReadyToSettle}
use Rattle.std.proofs.lemmas.List.Elements.{recursion_from_All}
use Rattle.catalogue_rules.proofs.Elements.{Each, each_weaker, find_found}
use Rattle.catalogue_rules.proofs.Fit.{IsFit, IsGood, IfLink, good_choice}
use Rattle.catalogue_rules.proofs.Proper.{all_fit}
use Rattle.catalogue_rules.proofs.Steady.{IsSteady, linkables_stay, heading_tag}

-- a field that was linked and rewritten stays as it is
linked_once : (all : List Linkable) (class : Class) (g : KeptField) (whole : Bool) (c : Linkable) → IsFit all c →
    settle_field all class (link_to class g whole c) ≡ link_to class g whole c
unfolding settle_field
linked_once all class g whole c f =
    let twice = rewriting_twice g.field c.kind class c.heading c.key whole f.blankless f.heading_part in
    rw f.found (λ i. record { field = twice i; tie = record { key = Some c.key; whole = whole; awaits = None } })

-- a field that the pass leaves stays as it is
left_alone : (all : List Linkable) (class : Class) (h g : KeptField) → settle_field all class h ≡ g → g ≡ h → settle_field all class g ≡ g
left_alone all class h g e same = ap (settle_field all class) same ∙ e

unlinked_at : (all : List Linkable) (class : Class) (h : KeptField) → h.tie.key ≡ None → settle_field all class h ≡ settle_unlinked all class h
unfolding settle_field
unlinked_at all class h e = rw e refl

linked_at : (all : List Linkable) (class : Class) (h : KeptField) (key : Key) → h.tie.key ≡ Some key → settle_field all class h ≡ settle_linked all class h key
unfolding settle_field
linked_at all class h key e = rw e refl

choice_once : (all : List Linkable) (class : Class) (kind : Kind) (h : KeptField) (x : Choice) → IfLink (IsGood all class kind h) x →
    settle_field all class h ≡ take_choice class h x → settle_field all class (take_choice class h x) ≡ take_choice class h x
choice_once all class kind h (Link c whole) good e = linked_once all class h whole c good.fit
choice_once all class kind h (Ambiguous keys) good e = e
choice_once all class kind h Unlinked good e = e

heading_once : (all : List Linkable) (class : Class) (h : KeptField) (o : Option Kind) → Each (IsFit all) all →
    settle_field all class h ≡ option_map_or (λ kind. take_choice class h (choice all class kind h)) o h →
    settle_field all class (option_map_or (λ kind. take_choice class h (choice all class kind h)) o h) ≡ option_map_or (λ kind. take_choice class h (choice all class kind h)) o h
heading_once all class h None fits e = e
heading_once all class h (Some kind) fits e = choice_once all class kind h (choice all class kind h) (good_choice all class kind h fits) e

found_once : (all : List Linkable) (class : Class) (h : KeptField) (key : Key) (o : Option Linkable) → Each (IsFit all) all → find (has_key key) all ≡ o →
    settle_field all class h ≡ option_map_or (link_to class h h.tie.whole) o h →
    settle_field all class (option_map_or (link_to class h h.tie.whole) o h) ≡ option_map_or (link_to class h h.tie.whole) o h
found_once all class h key None fits f e = e
found_once all class h key (Some c) fits f e = linked_once all class h h.tie.whole c (find_found (IsFit all) (has_key key) all c fits f).0

field_at : (all : List Linkable) (class : Class) (h : KeptField) (o : Option Key) → Each (IsFit all) all → h.tie.key ≡ o →
    settle_field all class (settle_field all class h) ≡ settle_field all class h
field_at all class h None fits e =
    let own = unlinked_at all class h e in
    rw own (heading_once all class h (heading_kind class h.field) fits own)
field_at all class h (Some key) fits e =
    let own = linked_at all class h key e in
    rw own (found_once all class h key (find (has_key key) all) fits refl own)

-- a field settled twice is settled once
pub field_once : (all : List Linkable) (class : Class) → Each (IsFit all) all → (h : KeptField) → settle_field all class (settle_field all class h) ≡ settle_field all class h
field_once all class fits h = field_at all class h h.tie.key fits refl

fields_once : (f : KeptField → KeptField) → ((h : KeptField) → f (f h) ≡ f h) → (hs : List KeptField) → map f (map f hs) ≡ map f hs
fields_once f e [] = refl
fields_once f e (h ∷ hs) = rw (e h, fields_once f e hs) refl

rows_once : (f : KeptField → KeptField) → ((h : KeptField) → f (f h) ≡ f h) → (rows : List Row) → map (each_in_row f) (map (each_in_row f) rows) ≡ map (each_in_row f) rows
rows_once f e [] = refl
rows_once f e (row ∷ rows) = rw (rows_once f e rows) (λ i. (row.0, record { leader = row.1.leader; fields = fields_once f e row.1.fields i }) ∷ map (each_in_row f) rows)

steady_linked : (h : KeptField) (whole : Bool) (c : Linkable) → is_heading_field Authority h.field ≡ true → IsSteady h.field (link_to Authority h whole c).field
steady_linked h whole c heading =
    let tag = heading_tag h.field heading in
    inr (tag, rw (tag_of_rewriting h.field c.kind Authority c.heading c.key whole) tag)

steady_choice : (h : KeptField) (x : Choice) → is_heading_field Authority h.field ≡ true → IsSteady h.field (take_choice Authority h x).field
steady_choice h (Link c whole) heading = steady_linked h whole c heading
steady_choice h (Ambiguous keys) heading = inl refl
steady_choice h Unlinked heading = inl refl

steady_unlinked : (all : List Linkable) (h : KeptField) (o : Option Kind) → heading_kind Authority h.field ≡ o →
    IsSteady h.field (option_map_or (λ kind. take_choice Authority h (choice all Authority kind h)) o h).field
steady_unlinked all h None e = inl refl
steady_unlinked all h (Some kind) e = steady_choice h (choice all Authority kind h) (rw e refl)

steady_found : (h : KeptField) (o : Option Linkable) → is_heading_field Authority h.field ≡ true → IsSteady h.field (option_map_or (link_to Authority h h.tie.whole) o h).field
steady_found h None heading = inl refl
steady_found h (Some c) heading = steady_linked h h.tie.whole c heading

steady_at : (all : List Linkable) (h : KeptField) (o : Option Key) → h.tie.key ≡ o → IsLinkOfHeading Authority h →
    IsSteady h.field (option_map_or (settle_linked all Authority h) o (settle_unlinked all Authority h)).field
steady_at all h None e heading = steady_unlinked all h (heading_kind Authority h.field) refl
steady_at all h (Some key) e heading = steady_found h (find (has_key key) all) (heading (rw e refl))

pub steady_field : (all : List Linkable) (h : KeptField) → IsLinkOfHeading Authority h → IsSteady h.field (settle_field all Authority h).field
unfolding settle_field
steady_field all h heading = steady_at all h h.tie.key refl heading

-- settling leaves the linkable authorities
pub settled_linkables : (all : List Linkable) (rows : List Row) → Each (λ (row : Row). Each (IsLinkOfHeading Authority) row.1.fields) rows →
    filter_map row_linkable (map (each_in_row (settle_field all Authority)) rows) ≡ filter_map row_linkable rows
settled_linkables all rows links =
    linkables_stay (settle_field all Authority) rows
    (each_weaker (λ (row : Row). Each (IsLinkOfHeading Authority) row.1.fields) (λ (row : Row). Each (λ h. IsSteady h.field (settle_field all Authority h).field) row.1.fields)
    (λ row a. each_weaker (IsLinkOfHeading Authority) (λ h. IsSteady h.field (settle_field all Authority h).field) (steady_field all) row.1.fields a) rows links)

-- a state settled twice is settled once
pub state_once : (s : State) → IsAscending s.authorities → Each (IsRow Authority) s.authorities → Each (λ (row : Row). Each (IsLinkOfHeading Authority) row.1.fields) s.authorities →
    settle (settle s) ≡ settle s
unfolding settle each_field
state_once s ascend rows links =
    let all = linkable_authorities s in
    let fits = all_fit s.authorities ascend rows in
    rw (settled_linkables all s.authorities links)
    (λ i. record {
      authorities = rows_once (settle_field all Authority) (field_once all Authority fits) s.authorities i;
      bibliographic = rows_once (settle_field all Bibliographic) (field_once all Bibliographic fits) s.bibliographic i;
    })

each_row_of : (P : KeptField → Type 0) (rows : List Row) → All (λ (row : Row). All P row.1.fields) rows → Each (λ (row : Row). Each P row.1.fields) rows
each_row_of P rows a =
    each_weaker (λ (row : Row). All P row.1.fields) (λ (row : Row). Each P row.1.fields) (λ row b. recursion_from_All P row.1.fields b) rows
    (recursion_from_All (λ (row : Row). All P row.1.fields) rows a)

pub settle_twice : (s : State) → IsReadyToSettle s → settle (settle s) ≡ settle s
settle_twice s o =
    state_once s o.authorities_ascend (recursion_from_All (IsRow Authority) s.authorities o.authority_rows) (each_row_of (IsLinkOfHeading Authority) s.authorities o.links.0)
