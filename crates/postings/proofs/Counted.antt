-- How often the equality of things counts one in a tree, which goes by their order.
use Rattle.std.proofs.Common.{◌≡◌, ◌∙◌, sym, ap, refl, subst, ℕ, ◌+◌, ◌-◌, ◌≤◌, arith, Bool, true, false, Option, Some, None, unwrap_or}
use Rattle.std.specs.Prelude.{cond, if◌then◌else◌, is_some, IsSome}
use Rattle.std.specs.declared.cmp.Ordering.{Ordering}
use Rattle.std.specs.Ordering.{eq_by_cmp}
use Rattle.std.specs.Cmp.{IsEquivalence}
use Rattle.std.specs.Map.{lookup}
use Rattle.std.specs.List.{IsDistinct}
use Rattle.std.specs.BTreeMap.{BTreeMap, get, keys, IsOrdered, Updates, WritesThrough}
use Rattle.std.proofs.lemmas.Map.Keys.{IsDistinct-from_sorted}
use Rattle.std.proofs.lemmas.Map.Made.{is_some-lookup}
use Rattle.postings.specs.Group.{times_counted}
use Rattle.postings.specs.Listed.{HasEach}

is_counted : (o : Option ℕ) → 1 ≤ unwrap_or o 0 → is_some o ≡ true
is_counted None h = absurd (omega arith)
is_counted (Some n) h = refl

written_by : (b : Bool) (w o : Option ℕ) → unwrap_or (cond b w o) 0 ≡ (if b then unwrap_or w 0 else unwrap_or o 0)
written_by true w o = refl
written_by false w o = refl

-- a count before and now, where b says whether it is the thing's that has the count `here`
stays_by : (b : Bool) (new old w here : ℕ) → new ≡ (if b then w else old) → (b ≡ true → here ≡ old) → w ≡ here → new ≡ old
stays_by true new old w here e alike r = let s = alike refl in omega arith
stays_by false new old w here e alike r = e

more_by : (b : Bool) (new old w here : ℕ) → new ≡ (if b then w else old) → (b ≡ true → here ≡ old) → w ≡ here + 1 → new ≡ old + (if b then 1 else 0)
more_by true new old w here e alike r = let s = alike refl in omega arith
more_by false new old w here e alike r = omega arith

less_by : (b : Bool) (new old w here : ℕ) → new ≡ (if b then w else old) → (b ≡ true → here ≡ old) → w ≡ here - 1 → new ≡ old - (if b then 1 else 0)
less_by true new old w here e alike r = let s = alike refl in omega arith
less_by false new old w here e alike r = omega arith

-- things that are the same are counted alike
alike : {P : Type 0} {same : P → P → Bool} (laws : IsEquivalence same) (counts : BTreeMap P ℕ) (x y : P) → same x y ≡ true → times_counted same counts x ≡ times_counted same counts y
alike laws counts x y e = λ i. unwrap_or (lookup (λ k. laws.congr x y k e i) counts.entries) 0

module _ {P : Type 0} {same : P → P → Bool} (order : P → P → Ordering) (laws : IsEquivalence same) (ties : (x y : P) → same x y ≡ eq_by_cmp order x y) where
  by_order : (counts : BTreeMap P ℕ) (p : P) → times_counted same counts p ≡ unwrap_or (get order counts p) 0
  by_order counts p = λ i. unwrap_or (lookup (λ k. ties p k i) counts.entries) 0

  module _ (old new : BTreeMap P ℕ) (thing : P) where
    changed : (w : Option ℕ) → Updates order old new thing w → (p : P) → times_counted same new p ≡ (if same thing p then unwrap_or w 0 else times_counted same old p)
    changed w now p =
        by_order new p ∙ ap (λ o. unwrap_or o 0) (now.0 p) ∙ written_by (eq_by_cmp order thing p) w (get order old p)
        ∙ (λ i. if sym (ties thing p) i then unwrap_or w 0 else sym (by_order old p) i)

    -- the thing's count is written as it was, or is one more, or one less
    pub times_stay : (v : ℕ) → Some v ≡ get order old thing → WritesThrough order (order thing) old v new → (p : P) → times_counted same new p ≡ times_counted same old p
    times_stay v was writes p =
        stays_by (same thing p) (times_counted same new p) (times_counted same old p) v (times_counted same old thing)
        (changed (Some v) (writes.3 (subst (λ o. IsSome o) was refl)) p) (alike laws old thing p) (ap (λ o. unwrap_or o 0) was ∙ sym (by_order old thing))

    pub times_rise : (v : ℕ) → Some v ≡ get order old thing → WritesThrough order (order thing) old (v + 1) new
        → (p : P) → times_counted same new p ≡ times_counted same old p + (if same thing p then 1 else 0)
    times_rise v was writes p =
        more_by (same thing p) (times_counted same new p) (times_counted same old p) (v + 1) (times_counted same old thing)
        (changed (Some (v + 1)) (writes.3 (subst (λ o. IsSome o) was refl)) p) (alike laws old thing p) (ap (λ o. unwrap_or o 0 + 1) was ∙ ap (λ n. n + 1) (sym (by_order old thing)))

    pub times_fall : (v : ℕ) → Some v ≡ get order old thing → WritesThrough order (order thing) old (v - 1) new
        → (p : P) → times_counted same new p ≡ times_counted same old p - (if same thing p then 1 else 0)
    times_fall v was writes p =
        less_by (same thing p) (times_counted same new p) (times_counted same old p) (v - 1) (times_counted same old thing)
        (changed (Some (v - 1)) (writes.3 (subst (λ o. IsSome o) was refl)) p) (alike laws old thing p) (ap (λ o. unwrap_or o 0 - 1) was ∙ ap (λ n. n - 1) (sym (by_order old thing)))

    -- a thing that wasn't counted comes
    pub first_time : None ≡ get order old thing → Updates order old new thing (Some 1)
        → (p : P) → times_counted same new p ≡ times_counted same old p + (if same thing p then 1 else 0)
    first_time was now p =
        more_by (same thing p) (times_counted same new p) (times_counted same old p) 1 (times_counted same old thing)
        (changed (Some 1) now p) (alike laws old thing p) (ap (λ o. unwrap_or o 0 + 1) was ∙ ap (λ n. n + 1) (sym (by_order old thing)))

    -- a thing that wasn't counted goes, or one that was counted once at most
    pub no_time : None ≡ get order old thing → Updates order old new thing None
        → (p : P) → times_counted same new p ≡ times_counted same old p - (if same thing p then 1 else 0)
    no_time was now p =
        less_by (same thing p) (times_counted same new p) (times_counted same old p) 0 (times_counted same old thing)
        (changed None now p) (alike laws old thing p) (ap (λ o. unwrap_or o 0 - 1) was ∙ ap (λ n. n - 1) (sym (by_order old thing)))

    pub last_time : (v : ℕ) → Some v ≡ get order old thing → v ≤ 1 → Updates order old new thing None
        → (p : P) → times_counted same new p ≡ times_counted same old p - (if same thing p then 1 else 0)
    last_time v was once now p =
        let count : v ≡ times_counted same old thing = ap (λ o. unwrap_or o 0) was ∙ sym (by_order old thing) in
        less_by (same thing p) (times_counted same new p) (times_counted same old p) 0 (times_counted same old thing)
        (changed None now p) (alike laws old thing p) (omega arith)

  -- the count was looked at in between, and written back
  pub last_time_seen : (old between new : BTreeMap P ℕ) (thing : P) (v : ℕ) → Some v ≡ get order old thing → v ≤ 1
      → WritesThrough order (order thing) old v between → Updates order between new thing None
      → (p : P) → times_counted same new p ≡ times_counted same old p - (if same thing p then 1 else 0)
  last_time_seen old between new thing v was once writes now p =
      let updates = writes.3 (subst (λ o. IsSome o) was refl) in
      last_time between new thing v (sym updates.1) once now p ∙ ap (λ n. n - (if same thing p then 1 else 0)) (times_stay old between thing v was writes p)

  -- a thing that is counted is one of those that the tree has
  pub has_keys : (counts : BTreeMap P ℕ) → IsOrdered order counts → HasEach same (times_counted same counts) (keys counts)
  has_keys counts ordered = record {
    each = λ p h. sym (is_some-lookup (same p) counts.entries) ∙ is_counted (lookup (same p) counts.entries) h;
    once = subst (λ test. IsDistinct test (keys counts)) (λ i x y. sym (ties x y) i) (IsDistinct-from_sorted order (keys counts) ordered);
  }
