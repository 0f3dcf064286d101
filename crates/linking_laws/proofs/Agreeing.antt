-- The tables still agree once a field and its rows are exchanged, and carrying changes no table.
use Rattle.std.proofs.Common.{◌≡◌, Bool, true, false, ◌&&◌, ◌||◌, not, List, [], ◌∷◌, map, Option, Some, None, is_some, refl, sym, ap, ◌∙◌, if◌then◌else◌, cond, ◌++◌}
use Rattle.std.specs.Prelude.{filter, find, unwrap_or}
use Rattle.std.specs.List.{list_any}
use Rattle.std.specs.Option.{option_map, option_map_or, option_or, option_and_then}
use Rattle.marc_types.specs.Order.{key_Decides, form_Decides}
use Rattle.marc_types.specs.declared.key.Class.{Class}
use Rattle.marc_types.specs.declared.key.Key.{Key}
use Rattle.marc_types.specs.declared.key.Place.{Place}
use Rattle.marc_types.specs.declared.form.Kind.{Kind}
use Rattle.marc_types.specs.declared.form.Form.{Form}
use Rattle.heading_fields.specs.Rewriting.{rewriting}
use Rattle.marc_types.specs.Order.{same_key}
use Rattle.entry_record.specs.Authority.{Linkable, is_bare, heading_kind, is_heading_field, full_form, base_form, is_valid_key}
use Rattle.catalogue_rules.specs.State.{KeptField, State, linkable_authorities, each_field, KeptRecord}
use Rattle.catalogue_rules.specs.Choice.{has_key, Choice, Link, Unlinked, choice_among, is_established, is_see_from_form, by_form, by_number, by_base_form, takes_subdivisions, asks_base, choice}
use Rattle.marc_types.specs.Order.{same_form}
use Rattle.catalogue_rules.specs.Settle.{is_linked_to, Arrival}
use Rattle.catalogue_rules.specs.Store.{field_under, field_at}
use Rattle.linking_laws.specs.Waiting.{is_form_among, asked_forms, names_key, is_named, is_waiting_for}
use Rattle.linking_laws.specs.Stages.{carry_field, carry_by}
use Rattle.linking_laws.specs.Visits.{waits_for_key}
use Rattle.linking_laws.specs.Partway.{same_place, swapped, AreOrdered, IsPartway, IsSteadyChange, IsNext}
use Rattle.linking_laws.specs.Middle.{IsMiddleWith, AreAuthoritiesInOrder}
use Rattle.linking_laws.specs.Tables.{Tables, index_row, asks_at, linked_at, holds_at, Agree, AreIndexed, IsRelisted, is_waiting_by, IndexRow, IsReplaced, choice_by_keys, keys_with, has_established, has_traced, form_by_index, choice_by_index}
use Rattle.linking_laws.proofs.Settling.{stage_ready, carry_either}
use Rattle.linking_laws.proofs.Exchanges.{field_swapped, field_each}
use Rattle.linking_laws.proofs.Partial.{place_is, partway_more, linkables_partway}
use Rattle.linking_laws.proofs.Touched.{carry_off, linked_to, unlinked_to}
use Rattle.std.proofs.lemmas.List.Elements.{recursion_from_All}
use Rattle.marc_types.specs.declared.key.Class.TheVariants.{Authority}
use Rattle.catalogue_rules.specs.Receipt.{is_committed}
use Rattle.catalogue_rules.specs.Valid.{IsRow}
use Rattle.catalogue_rules.proofs.Elements.{Each, each_weaker, each_filter}
use Rattle.catalogue_rules.proofs.Fit.{IsFit}
use Rattle.catalogue_rules.proofs.Proper.{all_fit}
use Rattle.linking_laws.specs.Behind.{placed_in}
use Rattle.linking_laws.proofs.Counts.{kept_placed}

-- ---- one place

place_at : (test : Class → KeptField → Bool) (p q : Place) (old h : KeptField) (s : State) (b : Bool) → same_place p q ≡ b → field_under p s ≡ Some old →
    (if b then test p.class h else holds_at test s q) ≡ option_map_or (test q.class) (if b then option_map (λ (x : KeptField). h) (field_under q s) else field_under q s) false
place_at test p q old h s true e there =
    let same = place_is p q e in
    ap (λ (x : Place). test x.class h) same
    ∙ sym (ap (λ (o : Option KeptField). option_map_or (test q.class) (option_map (λ (x : KeptField). h) o) false) (sym (ap (λ (x : Place). field_under x s) same) ∙ there))
place_at test p q old h s false e there = refl

pub exchanged : (test : Class → KeptField → Bool) (p q : Place) (old h : KeptField) (s : State) (after before : Bool) → field_under p s ≡ Some old →
    after ≡ (if same_place p q then test p.class h else before) → before ≡ holds_at test s q → after ≡ holds_at test (swapped p h s) q
exchanged test p q old h s after before there new was =
    new ∙ ap (λ (b : Bool). if same_place p q then test p.class h else b) was
    ∙ place_at test p q old h s (same_place p q) refl there
    ∙ sym (ap (λ (o : Option KeptField). option_map_or (test q.class) o false) (field_swapped p q h s))

-- a field and its place's rows are exchanged
pub agree_swapped : (t u : Tables) (s : State) (p : Place) (old h : KeptField) → Agree t s → field_under p s ≡ Some old → IsRelisted p h t u →
    linkable_authorities (swapped p h s) ≡ linkable_authorities s → Agree u (swapped p h s)
agree_swapped t u s p old h a there r stay = record {
  forms = r.forms ∙ a.forms ∙ sym (ap (map index_row) stay);
  bare = r.bare ∙ a.bare ∙ sym (ap (λ (l : List Linkable). map index_row (filter is_bare l)) stay);
  asking = λ form q. exchanged (asks_at form) p q old h s (u.asking form q) (t.asking form q) there (r.asking form q) (a.asking form q);
  naming = λ key q valid. exchanged (waits_for_key key) p q old h s (u.naming key q) (t.naming key q) there (r.naming key q valid) (a.naming key q valid);
  linked = λ key q. exchanged (linked_at key) p q old h s (u.linked key q) (t.linked key q) there (r.linked key q) (a.linked key q);
}

-- one turn of a stage: a field is exchanged for what the change makes of it, and its rows with it
pub agree_turned : (change : Class → KeptField → KeptField) (done : List Place) (before now : State) (p : Place) (h : KeptField) (t u : Tables) →
    AreOrdered before → IsPartway change done before now → IsSteadyChange change before → IsNext done p h now → Agree t now → IsRelisted p (change p.class h) t u →
    Agree u (swapped p (change p.class h) now)
agree_turned change done before now p h t u order part steady next a r =
    let more = partway_more change done before now p h part next.is_new next.stands in
    agree_swapped t u now p h (change p.class h) a next.stands r
    (linkables_partway change (done ++ p ∷ []) before (swapped p (change p.class h) now) order more steady ∙ sym (linkables_partway change done before now order part steady))

-- ---- carrying

each_holds : (test : Class → KeptField → Bool) (change : Class → KeptField → KeptField) (s : State) (q : Place) → ((class : Class) (h : KeptField) → test class h ≡ test class (change class h)) →
    holds_at test s q ≡ holds_at test (each_field change s) q
each_holds test change s q same =
    at (field_under q s) ∙ sym (ap (λ (o : Option KeptField). option_map_or (test q.class) o false) (field_each change q s))
  where
    at : (o : Option KeptField) → option_map_or (test q.class) o false ≡ option_map_or (test q.class) (option_map (change q.class) o) false
    at None = refl
    at (Some h) = same q.class h

asks_linked : (form : Form) (class : Class) (own : Key) (h : KeptField) → h.tie.key ≡ Some own → asks_at form class h ≡ false
asks_linked form class own h e =
    ap (λ (o : Option Key). if is_some o then false else option_map_or (λ kind. is_form_among (asked_forms class kind h) form) (heading_kind class h.field) false) e

waits_linked : (key : Key) (class : Class) (own : Key) (h : KeptField) → h.tie.key ≡ Some own → waits_for_key key class h ≡ false
waits_linked key class own h e = ap (λ (o : Option Key). not (is_some o) && (is_heading_field class h.field && names_key key h)) e

carried_key : (key : Key) (c : Linkable) (class : Class) (h : KeptField) → is_linked_to key h ≡ true → (carry_by key (Some c) class h).tie.key ≡ Some key
unfolding carry_field
carried_key key c class h e =
    ap (λ (b : Bool). (if b then (record {
      field = rewriting h.field c.kind class c.heading key h.tie.whole;
      tie = record { key = Some key; whole = h.tie.whole; awaits = None };
    }) else h).tie.key) e

own_at : (key : Key) (h : KeptField) (o : Option Key) → h.tie.key ≡ o → is_linked_to key h ≡ true → h.tie.key ≡ Some key
own_at key h None e linked = let off = unlinked_to key h e in cc
own_at key h (Some own) e linked =
    let same : key ≡ own = (key_Decides key own).0 (sym (linked_to key own h e) ∙ linked) in
    e ∙ ap (λ (k : Key). Some k) (sym same)

-- a test that sees of a field linked to the key no more than the link
module _ (test : Class → KeptField → Bool) (key : Key) (told : Bool) (only : (class : Class) (h : KeptField) → h.tie.key ≡ Some key → test class h ≡ told) where
  carry_same : (class : Class) (h : KeptField) (o : Option Linkable) (b : Bool) → is_linked_to key h ≡ b → test class h ≡ test class (carry_by key o class h)
  carry_same class h None b e = refl
  carry_same class h (Some c) true e = only class h (own_at key h h.tie.key refl e) ∙ sym (only class (carry_by key (Some c) class h) (carried_key key c class h e))
  carry_same class h (Some c) false e = ap (test class) (sym (carry_off key (Some c) class h e))

-- carrying changes no table
pub carry_agrees : (t : Tables) (all : List Linkable) (key : Key) (s : State) → IsMiddleWith all s → Agree t s → Agree t (each_field (carry_by key (find (has_key key) all)) s)
carry_agrees t all key s m a =
    let change = carry_by key (find (has_key key) all) in
    let stay = (stage_ready all change s m (carry_either key all)).authorities_are ∙ sym m.authorities_are in
    record {
      forms = a.forms ∙ sym (ap (map index_row) stay);
      bare = a.bare ∙ sym (ap (λ (l : List Linkable). map index_row (filter is_bare l)) stay);
      asking = λ form q. a.asking form q
          ∙ each_holds (asks_at form) change s q (λ class h. carry_same (asks_at form) key false (λ c x e. asks_linked form c key x e) class h (find (has_key key) all) (is_linked_to key h) refl);
      naming = λ k q valid. a.naming k q valid
          ∙ each_holds (waits_for_key k) change s q (λ class h. carry_same (waits_for_key k) key false (λ c x e. waits_linked k c key x e) class h (find (has_key key) all) (is_linked_to key h) refl);
      linked = λ k q. a.linked k q
          ∙ each_holds (linked_at k) change s q (λ class h. carry_same (linked_at k) key (same_key k key) (λ c x e. linked_to k key x e) class h (find (has_key key) all) (is_linked_to key h) refl);
    }

-- ---- the places that wait

form_turned : (f g : Form) (b c : Bool) → same_form f g ≡ b → same_form g f ≡ c → b ≡ c
form_turned f g true true p q = refl
form_turned f g false false p q = refl
form_turned f g true false p q = let other = (form_Decides g f).1 (sym ((form_Decides f g).0 p)) in cc
form_turned f g false true p q = let other = (form_Decides f g).1 (sym ((form_Decides g f).0 q)) in cc

or_four : (a b c d : Bool) → ((a || b) || (c || d)) ≡ ((a || c) || (b || d))
or_four true b c d = refl
or_four false true true d = refl
or_four false true false d = refl
or_four false false c d = refl

none_among : (forms : List Form) → list_any (λ (f : Form). false) forms ≡ false
none_among [] = refl
none_among (f ∷ forms) = none_among forms

one_more : (x : Form) (xs forms : List Form) → list_any (λ f. is_form_among (x ∷ xs) f) forms ≡ (is_form_among forms x || list_any (λ f. is_form_among xs f) forms)
one_more x xs [] = refl
one_more x xs (f ∷ forms) =
    ap (λ (b : Bool). (b || is_form_among xs f) || list_any (λ g. is_form_among (x ∷ xs) g) forms) (form_turned f x (same_form f x) (same_form x f) refl refl)
    ∙ ap (λ (b : Bool). (same_form x f || is_form_among xs f) || b) (one_more x xs forms)
    ∙ or_four (same_form x f) (is_form_among xs f) (is_form_among forms x) (list_any (λ g. is_form_among xs g) forms)

-- one of the asked forms is among these where one of these is among the asked ones
any_turned : (asked forms : List Form) → list_any (is_form_among forms) asked ≡ list_any (λ f. is_form_among asked f) forms
any_turned [] forms = sym (none_among forms)
any_turned (x ∷ asked) forms = ap (λ (b : Bool). is_form_among forms x || b) (any_turned asked forms) ∙ sym (one_more x asked forms)

waits_at : (forms : List Form) (key : Key) (class : Class) (h : KeptField) (a : Bool) (o : Option Kind) → heading_kind class h.field ≡ o →
    (if a then false else option_map_or (λ kind. is_named forms key class kind h) o false)
    ≡ (list_any (λ form. if a then false else option_map_or (λ kind. is_form_among (asked_forms class kind h) form) o false) forms || (not a && (is_some o && names_key key h)))
waits_at forms key class h true o e = sym (ap (λ (b : Bool). b || false) (none_among forms))
waits_at forms key class h false None e = sym (ap (λ (b : Bool). b || false) (none_among forms))
waits_at forms key class h false (Some kind) e = ap (λ (b : Bool). b || names_key key h) (any_turned (asked_forms class kind h) forms)

waits_by : (forms : List Form) (key : Key) (class : Class) (h : KeptField) → is_waiting_for forms key class h ≡ (list_any (λ form. asks_at form class h) forms || waits_for_key key class h)
unfolding is_waiting_for
waits_by forms key class h = waits_at forms key class h (is_some h.tie.key) (heading_kind class h.field) refl

any_same : (f g : Form → Bool) (forms : List Form) → ((form : Form) → f form ≡ g form) → list_any f forms ≡ list_any g forms
any_same f g [] same = refl
any_same f g (x ∷ forms) same = ap (λ (b : Bool). b || list_any f forms) (same x) ∙ ap (λ (b : Bool). g x || b) (any_same f g forms same)

waits_place : (forms : List Form) (key : Key) (class : Class) (o : Option KeptField) →
    option_map_or (is_waiting_for forms key class) o false
    ≡ (list_any (λ form. option_map_or (asks_at form class) o false) forms || option_map_or (waits_for_key key class) o false)
waits_place forms key class None = sym (ap (λ (b : Bool). b || false) (none_among forms))
waits_place forms key class (Some h) = waits_by forms key class h

-- the tables name exactly the places that wait for the key or for one of the forms
pub named_by_tables : (t : Tables) (s : State) (forms : List Form) (key : Key) (p : Place) → is_valid_key key ≡ true → Agree t s → is_waiting_by t forms key p ≡ holds_at (is_waiting_for forms key) s p
named_by_tables t s forms key p valid a =
    ap (λ (b : Bool). b || t.naming key p) (any_same (λ form. t.asking form p) (λ form. holds_at (asks_at form) s p) forms (λ form. a.asking form p))
    ∙ ap (λ (b : Bool). list_any (λ form. holds_at (asks_at form) s p) forms || b) (a.naming key p valid)
    ∙ sym (waits_place forms key p.class (field_under p s))

-- ---- a record comes into its place

placed_holds : (test : Class → KeptField → Bool) (a : Arrival) (s : State) (q : Place) (b : Bool) → is_committed a q.class q.key ≡ b →
    (if b then holds_at test (placed_in a.class a s) q else holds_at test s q) ≡ holds_at test (placed_in a.class a s) q
placed_holds test a s q true e = refl
placed_holds test a s q false e =
    sym (ap (λ (o : Option KeptRecord). option_map_or (test q.class) (option_and_then (field_at q.field) o) false) (kept_placed a.class q.class a s q.key refl e))

placed_row : (test : Class → KeptField → Bool) (a : Arrival) (s : State) (q : Place) (after before : Bool) →
    after ≡ (if is_committed a q.class q.key then holds_at test (placed_in a.class a s) q else before) → before ≡ holds_at test s q → after ≡ holds_at test (placed_in a.class a s) q
placed_row test a s q after before new was =
    new ∙ ap (λ (b : Bool). if is_committed a q.class q.key then holds_at test (placed_in a.class a s) q else b) was ∙ placed_holds test a s q (is_committed a q.class q.key) refl

-- the old record's rows go, and the new one's come in
pub agree_placed : (t u : Tables) (a : Arrival) (s : State) → Agree t s → IsReplaced a (placed_in a.class a s) t u → Agree u (placed_in a.class a s)
agree_placed t u a s g r = record {
  forms = r.forms;
  bare = r.bare;
  asking = λ form q. placed_row (asks_at form) a s q (u.asking form q) (t.asking form q) (r.asking form q) (g.asking form q);
  naming = λ key q valid. placed_row (waits_for_key key) a s q (u.naming key q) (t.naming key q) (r.naming key q valid) (g.naming key q valid);
  linked = λ key q. placed_row (linked_at key) a s q (u.linked key q) (t.linked key q) (r.linked key q) (g.linked key q);
}

-- ---- the choice by the indexes' rows

keys_found : (test : IndexRow → Bool) (cs : List Linkable) → map (λ (x : Linkable). x.key) (filter (λ x. test (index_row x)) cs) ≡ map (λ (r : IndexRow). r.key) (filter test (map index_row cs))
keys_found test [] = refl
keys_found test (c ∷ cs) = at (test (index_row c)) (keys_found test cs)
  where
    at : (b : Bool) → map (λ (x : Linkable). x.key) (filter (λ x. test (index_row x)) cs) ≡ map (λ (r : IndexRow). r.key) (filter test (map index_row cs)) →
        map (λ (x : Linkable). x.key) (cond b (c ∷ filter (λ x. test (index_row x)) cs) (filter (λ x. test (index_row x)) cs))
        ≡ map (λ (r : IndexRow). r.key) (cond b (index_row c ∷ filter test (map index_row cs)) (filter test (map index_row cs)))
    at true is = ap (λ (l : List Key). c.key ∷ l) is
    at false is = is

among_keys : (all : List Linkable) (whole : Bool) (cs : List Linkable) → Each (λ (c : Linkable). find (has_key c.key) all ≡ Some c) cs →
    choice_among whole cs ≡ choice_by_keys all whole (map (λ (c : Linkable). c.key) cs)
among_keys all whole [] found = refl
among_keys all whole (c ∷ []) found = sym (ap (option_map (λ (x : Linkable). Link x whole)) found.0)
among_keys all whole (c ∷ other ∷ more) found = refl

found_among : (all : List Linkable) (test : Linkable → Bool) (cs : List Linkable) → Each (λ (c : Linkable). find (has_key c.key) all ≡ Some c) cs →
    Each (λ (c : Linkable). find (has_key c.key) all ≡ Some c) (filter test cs)
found_among all test cs found =
    each_weaker (λ c. (find (has_key c.key) all ≡ Some c) × (test c ≡ true)) (λ c. find (has_key c.key) all ≡ Some c) (λ c x. x.0) (filter test cs)
    (each_filter (λ (c : Linkable). find (has_key c.key) all ≡ Some c) test cs found)

form_by_rows : (all cs : List Linkable) (whole : Bool) (form : Form) (rows : List IndexRow) → rows ≡ map index_row cs → Each (λ (c : Linkable). find (has_key c.key) all ≡ Some c) cs →
    by_form cs whole form ≡ form_by_index all rows whole form
unfolding by_form
form_by_rows all cs whole form rows e found =
    let first = among_keys all whole (filter (is_established form) cs) (found_among all (is_established form) cs found)
    ∙ ap (choice_by_keys all whole) (keys_found (has_established form) cs) in
    let second = among_keys all whole (filter (is_see_from_form form) cs) (found_among all (is_see_from_form form) cs found)
    ∙ ap (choice_by_keys all whole) (keys_found (has_traced form) cs) in
    ap (λ o. option_or o (choice_among whole (filter (is_see_from_form form) cs))) first
    ∙ ap (λ o. option_or (choice_by_keys all whole (keys_with (has_established form) (map index_row cs))) o) second
    ∙ ap (λ l. form_by_index all l whole form) (sym e)

all_found : (all : List Linkable) → Each (IsFit all) all → Each (λ (c : Linkable). find (has_key c.key) all ≡ Some c) all
all_found all fits = each_weaker (IsFit all) (λ (c : Linkable). find (has_key c.key) all ≡ Some c) (λ c f. f.found) all fits

full_at : (takes : Bool) (a b : Option Choice) → a ≡ b → (if takes then a else None) ≡ (if takes then b else None)
full_at takes a b e = ap (λ (o : Option Choice). if takes then o else None) e

-- the choice of a field, by its names and the rows of the two indexes
pub choice_found : (t : Tables) (s : State) (class : Class) (kind : Kind) (h : KeptField) → AreAuthoritiesInOrder s → AreIndexed t s →
    choice (linkable_authorities s) class kind h ≡ choice_by_index t (linkable_authorities s) class kind h
unfolding choice
choice_found t s class kind h m g =
    let all = linkable_authorities s in
    let fits = all_fit s.authorities m.ascend (recursion_from_All (IsRow Authority) s.authorities m.rows) in
    let found = all_found all fits in
    let full = full_at (takes_subdivisions class h) (by_form all true (full_form kind class h.field)) (form_by_index all t.forms true (full_form kind class h.field))
    (form_by_rows all all true (full_form kind class h.field) t.forms g.forms found) in
    let base = full_at (asks_base class h) (by_form (filter is_bare all) false (base_form kind h.field)) (form_by_index all t.bare false (base_form kind h.field))
    (form_by_rows all (filter is_bare all) false (base_form kind h.field) t.bare g.bare (found_among all is_bare all found)) in
    ap (λ o. unwrap_or (option_or (by_number all class kind h) (option_or o (by_base_form all class kind h))) Unlinked) full
    ∙ ap (λ o. unwrap_or (option_or (by_number all class kind h) (option_or (if takes_subdivisions class h then form_by_index all t.forms true (full_form kind class h.field) else None) o)) Unlinked) base
