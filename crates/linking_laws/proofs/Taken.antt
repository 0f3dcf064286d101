-- The fields of one record are taken in turn.
use Rattle.std.proofs.Common.{◌≡◌, ℕ, zero, suc, ◌≤◌, ◌<◌, Bool, true, false, ◌&&◌, ◌||◌, List, [], ◌∷◌, length, Option, Some, None, refl, sym, ap, ◌∙◌, subst, arith}
use Rattle.std.specs.Prelude.{◌==◌, nat_lt, slice_get}
use Rattle.std.specs.Cmp.{unsigned_Decides}
use Rattle.std.specs.Option.{option_and_then}
use Rattle.std.proofs.lemmas.Bool.{and_parts, ltb-true, ltb-false}
use Rattle.marc_types.specs.Order.{key_Decides, same_key}
use Rattle.marc_types.specs.declared.key.Class.{Class}
use Rattle.marc_types.specs.declared.key.Key.{Key}
use Rattle.marc_types.specs.declared.key.Place.{Place}
use Rattle.catalogue_rules.specs.State.{KeptField, KeptRecord, State}
use Rattle.catalogue_rules.specs.Receipt.{kept_under, same_class}
use Rattle.catalogue_rules.specs.Store.{field_at, field_under}
use Rattle.linking_laws.specs.Partway.{same_place, is_place_among, is_place_of, own_places, AreOwnDone, HasAtMost}
use Rattle.linking_laws.specs.Receipts.{place_in}
use Rattle.linking_laws.proofs.Heart.{any_append}
use Rattle.linking_laws.proofs.Partial.{class_same}

-- below the next number is what is below this one, or this one
below_more : (f n : ℕ) (b c d : Bool) → nat_lt f n ≡ b → (n == f) ≡ c → nat_lt f (suc n) ≡ d → (b || (c || false)) ≡ d
below_more f n true c true e g h = refl
below_more f n true c false e g h =
    let low : f < n = ltb-true f n e in
    let high : suc n ≤ f = ltb-false f (suc n) h in
    absurd (omega arith)
below_more f n false true true e g h = refl
below_more f n false true false e g h =
    let same : n ≡ f = (unsigned_Decides n f).0 g in
    let high : suc n ≤ f = ltb-false f (suc n) h in
    absurd (omega arith)
below_more f n false false false e g h = refl
below_more f n false false true e g h =
    let high : n ≤ f = ltb-false f n e in
    let low : f < suc n = ltb-true f (suc n) h in
    let same : n ≡ f = omega arith in
    let yes = (unsigned_Decides n f).1 same in
    cc

one_more : (own b c d : Bool) → (b || (c || false)) ≡ d → ((own && b) || ((own && c) || false)) ≡ (own && d)
one_more true b c d e = e
one_more false b c d e = refl

none_below : (f : ℕ) (b : Bool) → nat_lt f 0 ≡ b → b ≡ false
none_below f true e = let low : f < 0 = ltb-true f 0 e in absurd (omega arith)
none_below f false e = refl

and_none : (a b : Bool) → b ≡ false → false ≡ (a && b)
and_none true b e = sym e
and_none false b e = refl

-- the first places are the record's own whose field is below the number
taken_are : (class : Class) (key : Key) (n : ℕ) (q : Place) → is_place_among (own_places class key n) q ≡ (is_place_of class key q && nat_lt q.field n)
taken_are class key zero q = and_none (is_place_of class key q) (nat_lt q.field 0) (none_below q.field (nat_lt q.field 0) refl)
taken_are class key (suc n) q =
    any_append (λ p. same_place p q) (own_places class key n) (place_in class key n ∷ [])
    ∙ ap (λ (b : Bool). b || (same_place (place_in class key n) q || false)) (taken_are class key n q)
    ∙ one_more (is_place_of class key q) (nat_lt q.field n) (n == q.field) (nat_lt q.field (suc n))
    (below_more q.field n (nat_lt q.field n) (n == q.field) (nat_lt q.field (suc n)) refl refl refl)

not_below : (n : ℕ) (b : Bool) → nat_lt n n ≡ b → b ≡ false
not_below n true e = let low : n < n = ltb-true n n e in absurd (omega arith)
not_below n false e = refl

pub next_own : (class : Class) (key : Key) (n : ℕ) → is_place_among (own_places class key n) (place_in class key n) ≡ false
next_own class key n =
    taken_are class key n (place_in class key n) ∙ sym (and_none (is_place_of class key (place_in class key n)) (nat_lt n n) (not_below n (nat_lt n n) refl))

within : (hs : List KeptField) (i : ℕ) (h : KeptField) → slice_get hs i ≡ Some h → i < length hs
within [] i h e = cc
within (x ∷ hs) zero h e = omega arith
within (x ∷ hs) (suc i) h e = let rest = within hs i h e in omega arith

field_low : (class : Class) (key : Key) (i n : ℕ) (s : State) (h : KeptField) (o : Option KeptRecord) → kept_under class key s ≡ o → HasAtMost class key n s →
    option_and_then (field_at i) o ≡ Some h → i < n
field_low class key i n s h None e most there = cc
field_low class key i n s h (Some r) e most there =
    let low = within r.fields i h there in
    let few = most r e in
    omega arith

below_on : (f n : ℕ) (b : Bool) → nat_lt f n ≡ b → f < n → b ≡ true
below_on f n true e low = refl
below_on f n false e low = let high : n ≤ f = ltb-false f n e in absurd (omega arith)

done_at : (class : Class) (key : Key) (n : ℕ) (s : State) (q : Place) (h : KeptField) (own : Bool) → is_place_of class key q ≡ own → HasAtMost class key n s → field_under q s ≡ Some h →
    (own && nat_lt q.field n) ≡ own
done_at class key n s q h false e most there = refl
done_at class key n s q h true e most there =
    let parts = and_parts (same_class class q.class) (same_key key q.key) e in
    let one : class ≡ q.class = class_same class q.class parts.0 in
    let two : key ≡ q.key = (key_Decides key q.key).0 parts.1 in
    let most_there : HasAtMost q.class q.key n s = subst (λ (c : Class). HasAtMost c q.key n s) one (subst (λ (k : Key). HasAtMost class k n s) two most) in
    below_on q.field n (nat_lt q.field n) refl (field_low q.class q.key q.field n s h (kept_under q.class q.key s) refl most_there there)

pub all_taken : (class : Class) (key : Key) (n : ℕ) (s : State) → HasAtMost class key n s → AreOwnDone class key (own_places class key n) s
all_taken class key n s most = record {
  done_are = λ q h there. taken_are class key n q ∙ done_at class key n s q h (is_place_of class key q) refl most there;
}
