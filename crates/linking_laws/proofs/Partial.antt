-- A change of many fields, place by place: the start, one more place, and the end.
use Rattle.std.proofs.Common.{◌≡◌, ℕ, Bool, true, false, ◌&&◌, ◌||◌, List, [], ◌∷◌, ◌++◌, map, Option, Some, None, refl, sym, ap, ◌∙◌, subst, if◌then◌else◌, inl}
use Rattle.std.specs.List.Sorted.{IsStrictlySortedBy}
use Rattle.std.specs.Map.{keys_of}
use Rattle.std.specs.Option.{option_map}
use Rattle.std.specs.Prelude.{◌==◌}
use Rattle.std.specs.Cmp.{unsigned_Decides}
use Rattle.marc_types.specs.Order.{key_cmp, key_Decides}
use Rattle.marc_types.specs.declared.field.Leader.{Leader}
use Rattle.marc_types.specs.declared.key.Class.{Class}
use Rattle.marc_types.specs.declared.key.Class.TheVariants.{Authority, Bibliographic}
use Rattle.marc_types.specs.declared.key.Key.{Key}
use Rattle.marc_types.specs.declared.key.Place.{Place}
use Rattle.marc_types.specs.Order.{same_key}
use Rattle.catalogue_rules.specs.State.{KeptField, Row, State, linkable_authorities, each_field}
use Rattle.catalogue_rules.specs.Receipt.{same_class}
use Rattle.catalogue_rules.specs.Valid.{IsAscending}
use Rattle.std.proofs.lemmas.Bool.{and_parts}
use Rattle.catalogue_rules.specs.Store.{field_under}
use Rattle.linking_laws.specs.Partway.{same_place, is_place_among, swapped, row_outline, outlines, changed_among, AreOrdered, IsNext, IsPartway, IsWhole, IsSteady, IsSteadyChange}
use Rattle.linking_laws.proofs.Exchanges.{field_swapped, outlines_swapped, field_each, outlines_each}
use Rattle.linking_laws.proofs.Heart.{any_append}
use Rattle.linking_laws.proofs.Pairs.{Both, place_of, rows_from, rows_same, both_same, linkables_same}

pub class_same : (c d : Class) → same_class c d ≡ true → c ≡ d
class_same Authority Authority e = refl
class_same Bibliographic Bibliographic e = refl
class_same Authority Bibliographic e = cc
class_same Bibliographic Authority e = cc

-- two places that the test finds the same are the same
pub place_is : (p q : Place) → same_place p q ≡ true → p ≡ q
place_is p q e =
    let outer = and_parts (same_class p.class q.class && same_key p.key q.key) (p.field == q.field) e in
    let inner = and_parts (same_class p.class q.class) (same_key p.key q.key) outer.0 in
    let class : p.class ≡ q.class = class_same p.class q.class inner.0 in
    let key : p.key ≡ q.key = (key_Decides p.key q.key).0 inner.1 in
    let field : p.field ≡ q.field = (unsigned_Decides p.field q.field).0 outer.1 in
    λ i. record { class = class i; key = key i; field = field i }

own_class : (c : Class) → same_class c c ≡ true
own_class Authority = refl
own_class Bibliographic = refl

three_true : (a b c : Bool) → a ≡ true → b ≡ true → c ≡ true → (a && b && c) ≡ true
three_true a b c p q r = rw (p, q, r) refl

pub own_place : (p : Place) → same_place p p ≡ true
own_place p =
    three_true (same_class p.class p.class) (same_key p.key p.key) (p.field == p.field) (own_class p.class) ((key_Decides p.key p.key).1 refl) ((unsigned_Decides p.field p.field).1 refl)

-- ---- nothing is done

none_done : (change : Class → KeptField → KeptField) (q : Place) (o : Option KeptField) → o ≡ option_map (changed_among [] change q) o
none_done change q None = refl
none_done change q (Some h) = refl

pub partway_none : (change : Class → KeptField → KeptField) (s : State) → IsPartway change [] s s
partway_none change s = record { outlines_stay = λ class. refl; fields_are = λ q. none_done change q (field_under q s) }

-- ---- one more place

among_more : (done : List Place) (p q : Place) (b : Bool) → same_place p q ≡ b → is_place_among (done ++ p ∷ []) q ≡ (is_place_among done q || b)
among_more done p q b e =
    any_append (λ x. same_place x q) done (p ∷ []) ∙ ap (λ (c : Bool). is_place_among done q || (c || false)) e ∙ at (is_place_among done q) b
  where
    at : (a c : Bool) → (a || (c || false)) ≡ (a || c)
    at true c = refl
    at false true = refl
    at false false = refl

or_none : (a : Bool) → (a || false) ≡ a
or_none true = refl
or_none false = refl

some_is : (f : KeptField → KeptField) (h : KeptField) (o : Option KeptField) → Some h ≡ option_map f o → ((x : KeptField) → f x ≡ x) → o ≡ Some h
some_is f h None e same = cc
some_is f h (Some x) e same = let is : h ≡ f x = cc in ap (λ (y : KeptField). Some y) (sym (same x) ∙ sym is)

abbrev changed_if : Bool → (Class → KeptField → KeptField) → Class → KeptField → KeptField
changed_if b change class h = if b then change class h else h

at_own : (change : Class → KeptField → KeptField) (done : List Place) (before now : State) (p : Place) (h : KeptField) → IsPartway change done before now →
    is_place_among done p ≡ false → field_under p now ≡ Some h →
    field_under p (swapped p (change p.class h) now) ≡ option_map (changed_among (done ++ p ∷ []) change p) (field_under p before)
at_own change done before now p h part off there =
    let was : field_under p before ≡ Some h =
    some_is (changed_among done change p) h (field_under p before) (sym there ∙ part.fields_are p) (λ x. ap (λ (b : Bool). if b then change p.class x else x) off) in
    field_swapped p p (change p.class h) now
    ∙ ap (λ (b : Bool). if b then option_map (λ (x : KeptField). change p.class h) (field_under p now) else field_under p now) (own_place p)
    ∙ ap (option_map (λ (x : KeptField). change p.class h)) there
    ∙ ap (λ (b : Bool). Some (if b then change p.class h else h)) (sym (among_more done p p true (own_place p) ∙ always (is_place_among done p)))
    ∙ sym (ap (option_map (changed_among (done ++ p ∷ []) change p)) was)
  where
    always : (a : Bool) → (a || true) ≡ true
    always true = refl
    always false = refl

at_place : (change : Class → KeptField → KeptField) (done : List Place) (before now : State) (p q : Place) (h : KeptField) (b : Bool) → same_place p q ≡ b → IsPartway change done before now →
    is_place_among done p ≡ false → field_under p now ≡ Some h →
    field_under q (swapped p (change p.class h) now) ≡ option_map (changed_among (done ++ p ∷ []) change q) (field_under q before)
at_place change done before now p q h true e part off there =
    subst (λ (x : Place). field_under x (swapped p (change p.class h) now) ≡ option_map (changed_among (done ++ p ∷ []) change x) (field_under x before)) (place_is p q e)
    (at_own change done before now p h part off there)
at_place change done before now p q h false e part off there =
    field_swapped p q (change p.class h) now
    ∙ ap (λ (b : Bool). if b then option_map (λ (x : KeptField). change p.class h) (field_under q now) else field_under q now) e
    ∙ part.fields_are q
    ∙ ap (λ (b : Bool). option_map (changed_if b change q.class) (field_under q before)) (sym (among_more done p q false e ∙ or_none (is_place_among done q)))

-- one more place that wasn't done
pub partway_more : (change : Class → KeptField → KeptField) (done : List Place) (before now : State) (p : Place) (h : KeptField) → IsPartway change done before now →
    is_place_among done p ≡ false → field_under p now ≡ Some h → IsPartway change (done ++ p ∷ []) before (swapped p (change p.class h) now)
partway_more change done before now p h part off there = record {
  outlines_stay = λ class. outlines_swapped p (change p.class h) now class ∙ part.outlines_stay class;
  fields_are = λ q. at_place change done before now p q h (same_place p q) refl part off there;
}

-- ---- the end

keys_by : (rows : List Row) → map (λ (o : Key × (Leader × ℕ)). o.0) (map row_outline rows) ≡ keys_of rows
keys_by [] = refl
keys_by (row ∷ rows) = ap (λ l. row.0 ∷ l) (keys_by rows)

-- rows of one outline ascend alike
pub ascend_by : (xs ys : List Row) → map row_outline xs ≡ map row_outline ys → IsAscending ys → IsAscending xs
ascend_by xs ys e s =
    subst (λ (keys : List Key). IsStrictlySortedBy key_cmp keys) (sym (keys_by ys) ∙ ap (map (λ (o : Key × (Leader × ℕ)). o.0)) (sym e) ∙ keys_by xs) s

-- two states with one outline and one field at each place are the same
pub states_same : (s t : State) → ((class : Class) → outlines class s ≡ outlines class t) → AreOrdered t → ((q : Place) → field_under q s ≡ field_under q t) → s ≡ t
states_same s t outline order fields =
    let first = rows_same s.authorities t.authorities (rows_from (λ x y. x ≡ y) s.authorities t.authorities (outline Authority)
    (ascend_by s.authorities t.authorities (outline Authority) order.authorities) order.authorities
    (λ k i. both_same (place_of k i s.authorities) (place_of k i t.authorities) (fields (record { class = Authority; key = k; field = i })))) in
    let second = rows_same s.bibliographic t.bibliographic (rows_from (λ x y. x ≡ y) s.bibliographic t.bibliographic (outline Bibliographic)
    (ascend_by s.bibliographic t.bibliographic (outline Bibliographic) order.bibliographic) order.bibliographic
    (λ k i. both_same (place_of k i s.bibliographic) (place_of k i t.bibliographic) (fields (record { class = Bibliographic; key = k; field = i })))) in
    λ n. record { authorities = first n; bibliographic = second n }

whole_at : (change : Class → KeptField → KeptField) (done : List Place) (q : Place) (o : Option KeptField) (b : Bool) → is_place_among done q ≡ b →
    ((h : KeptField) → b ≡ false → o ≡ Some h → change q.class h ≡ h) → option_map (change q.class) o ≡ option_map (changed_among done change q) o
whole_at change done q None b e stay = refl
whole_at change done q (Some h) true e stay = ap (λ (x : Bool). Some (if x then change q.class h else h)) (sym e)
whole_at change done q (Some h) false e stay = ap (λ (x : KeptField). Some x) (stay h refl refl) ∙ ap (λ (x : Bool). Some (if x then change q.class h else h)) (sym e)

-- where the change leaves all other places, it is done
pub partway_all : (change : Class → KeptField → KeptField) (done : List Place) (before now : State) → AreOrdered before → IsPartway change done before now → IsWhole change done before →
    each_field change before ≡ now
partway_all change done before now order part whole =
    states_same (each_field change before) now (λ class. outlines_each change before class ∙ sym (part.outlines_stay class))
    (record {
      authorities = ascend_by now.authorities before.authorities (part.outlines_stay Authority) order.authorities;
      bibliographic = ascend_by now.bibliographic before.bibliographic (part.outlines_stay Bibliographic) order.bibliographic;
    })
    (λ q. field_each change q before
    ∙ whole_at change done q (field_under q before) (is_place_among done q) refl (λ h off there. whole.others_stay q h off there)
    ∙ sym (part.fields_are q))

-- ---- the authorities on the way

steady_at : (change : Class → KeptField → KeptField) (h : KeptField) (b : Bool) → IsSteady h (change Authority h) → IsSteady h (if b then change Authority h else h)
steady_at change h true steady = steady
steady_at change h false steady = inl refl

steady_both : (change : Class → KeptField → KeptField) (b : Bool) (o : Option KeptField) → ((h : KeptField) → o ≡ Some h → IsSteady h (change Authority h)) →
    Both IsSteady o (option_map (changed_if b change Authority) o)
steady_both change b None steady = tt
steady_both change b (Some h) steady = steady_at change h b (steady h refl)

-- however far the change has come, the linkable authorities are those before
pub linkables_partway : (change : Class → KeptField → KeptField) (done : List Place) (before now : State) → AreOrdered before → IsPartway change done before now → IsSteadyChange change before →
    linkable_authorities now ≡ linkable_authorities before
linkables_partway change done before now order part steady =
    sym (linkables_same before.authorities now.authorities (rows_from IsSteady before.authorities now.authorities (sym (part.outlines_stay Authority)) order.authorities
    (ascend_by now.authorities before.authorities (part.outlines_stay Authority) order.authorities)
    (λ k i.
    let q : Place = record { class = Authority; key = k; field = i } in
    subst (λ (o : Option KeptField). Both IsSteady (place_of k i before.authorities) o) (sym (part.fields_are q))
    (steady_both change (is_place_among done q) (place_of k i before.authorities) (λ h there. steady.steady q h refl there)))))

pub step_on : (change : Class → KeptField → KeptField) (done : List Place) (before now : State) (p : Place) (h : KeptField) → IsPartway change done before now → IsNext done p h now →
    IsPartway change (done ++ p ∷ []) before (swapped p (change p.class h) now)
step_on change done before now p h part next = partway_more change done before now p h part next.is_new next.stands
