-- Numbers in key order: what a search says of its place, and what a move leaves in order.
use Rattle.std.proofs.Common.{◌≡◌, ◌≢◌, ◌⊎◌, inl, inr, ◌∙◌, sym, ap, subst, refl, ℕ, zero, suc, ◌+◌, ◌<◌, ◌≤◌, arith, List, [], ◌∷◌, length, take, drop, get_or, slice_get, Some, insert, remove, eq-eqb, ne_eqb}
use Rattle.std.specs.Prelude.{false, ◌||◌, ◌==◌, if◌then◌else◌}
use Rattle.std.specs.List.{AllByRecursion, IsDistinct}
use Rattle.std.specs.List.Sorted.{IsStrictlySortedBy, IsPartitionPoint}
use Rattle.std.specs.declared.cmp.Ordering.{Ordering}
use Rattle.std.specs.declared.cmp.Ordering.TheVariants.{Less, Equal, Greater}
use Rattle.std.specs.Ordering.{eq_by_cmp, ordering_reverse, is_lt, is_eq}
use Rattle.std.specs.Cmp.{IsTotalOrder, on_total}
use Rattle.std.proofs.lemmas.Bool.{true≢false, cases_order}
use Rattle.std.proofs.lemmas.Cmp.{tied_itself}
use Rattle.std.proofs.lemmas.Map.Keys.{apart_from_distinct, Less-from_sorted}
use Rattle.marc_types.specs.Order.{key_cmp, key_cmp_total}
use Rattle.marc_types.specs.declared.key.Key.{Key}
use Rattle.form_index.specs.Order.{Ascends, has, key_at, no_key, number_cmp, inserted, without}

-- the keys' order is one of numbers
pub number_total : (keys : List Key) → IsTotalOrder (number_cmp keys)
number_total keys = on_total (key_at keys) key_cmp_total

-- a number ties with itself
pub order_of_one : (keys : List Key) (n : ℕ) → number_cmp keys n n ≡ Equal
order_of_one keys n = tied_itself (number_total keys) n

module _ (P : ℕ → Type 0) where
  pub all_insert : (l : List ℕ) (i x : ℕ) → AllByRecursion P l → P x → AllByRecursion P (insert l i x)
  all_insert [] zero x all p = (p, tt)
  all_insert [] (suc i) x all p = (p, tt)
  all_insert (m ∷ ms) zero x all p = (p, all)
  all_insert (m ∷ ms) (suc i) x all p = (all.0, all_insert ms i x all.1 p)

  pub all_remove : (l : List ℕ) (i : ℕ) → AllByRecursion P l → AllByRecursion P (remove l i)
  all_remove [] zero all = tt
  all_remove [] (suc i) all = tt
  all_remove (m ∷ ms) zero all = all.1
  all_remove (m ∷ ms) (suc i) all = (all.0, all_remove ms i all.1)

  pub all_more : (Q : ℕ → Type 0) → ((n : ℕ) → P n → Q n) → (l : List ℕ) → AllByRecursion P l → AllByRecursion Q l
  all_more Q more [] all = tt
  all_more Q more (m ∷ ms) all = (more m all.0, all_more Q more ms all.1)

  pub all_at : (l : List ℕ) (k d : ℕ) → AllByRecursion P l → k < length l → P (get_or l k d)
  all_at [] k d all within = absurd (omega arith)
  all_at (m ∷ ms) zero d all within = all.0
  all_at (m ∷ ms) (suc k) d all within = all_at ms k d all.1 (omega arith)

  -- what holds below a place and from it on, told without places
  pub split_all : (Q : ℕ → Type 0) (l : List ℕ) (i : ℕ) → IsPartitionPoint P Q l i → AllByRecursion P (take i l) × AllByRecursion Q (drop i l)
  split_all Q [] zero part = (tt, tt)
  split_all Q [] (suc i) part = (tt, tt)
  split_all Q (m ∷ ms) zero part =
      (tt, (part.1 0 m (omega arith) (omega arith), (split_all Q ms zero ((λ k d low high. absurd (omega arith)), (λ k d low high. part.1 (suc k) d (omega arith) (omega arith)))).1))
  split_all Q (m ∷ ms) (suc i) part =
      let rest = split_all Q ms i ((λ k d low high. part.0 (suc k) d (omega arith) (omega arith)), (λ k d low high. part.1 (suc k) d (omega arith) (omega arith))) in
      ((part.0 0 m (omega arith) (omega arith), rest.0), rest.1)

module _ (R : ℕ → ℕ → Ordering) (o : IsTotalOrder R) where
  pub less_back : (x y : ℕ) → R x y ≡ Less → R y x ≡ Greater
  less_back x y e = o.antisymm y x ∙ ap ordering_reverse e

  pub greater_back : (x y : ℕ) → R x y ≡ Greater → R y x ≡ Less
  greater_back x y e = o.antisymm y x ∙ ap ordering_reverse e

  -- what lies below a number's place is less, and what lies from it on greater
  abbrev pub IsPlace : ℕ → List ℕ → ℕ → Type 0
  IsPlace n l i = AllByRecursion (λ m. R m n ≡ Less) (take i l) × AllByRecursion (λ m. R m n ≡ Greater) (drop i l)

  not_same : (m n : ℕ) (r : Ordering) → R m n ≡ r → r ≢ Equal → (m == n) ≡ false
  not_same m n r is differs = ne_eqb m n (λ e. differs (sym is ∙ ap (λ k. R k n) e ∙ tied_itself o n))

  pub less_differs : (m n : ℕ) → R m n ≡ Less → (m == n) ≡ false
  less_differs m n e = not_same m n Less e (λ h. cc)

  pub greater_differs : (m n : ℕ) → R m n ≡ Greater → (m == n) ≡ false
  greater_differs m n e = not_same m n Greater e (λ h. cc)

  all_greater : (n : ℕ) (l : List ℕ) → AllByRecursion (λ m. R m n ≡ Greater) l → has n l ≡ false
  all_greater n [] all = refl
  all_greater n (m ∷ ms) all = ap (λ b. b || has n ms) (greater_differs m n all.0) ∙ all_greater n ms all.1

  pub has_not : (n : ℕ) (l : List ℕ) (i : ℕ) → IsPlace n l i → has n l ≡ false
  has_not n [] i place = refl
  has_not n (m ∷ ms) zero place = all_greater n (m ∷ ms) place.1
  has_not n (m ∷ ms) (suc i) place = ap (λ b. b || has n ms) (less_differs m n place.0.0) ∙ has_not n ms i (place.0.1, place.1)

  all_below : (n m : ℕ) (l : List ℕ) → R n m ≡ Less → AllByRecursion (λ k. R m k ≡ Less) l → AllByRecursion (λ k. R n k ≡ Less) l
  all_below n m l below all = all_more (λ k. R m k ≡ Less) (λ k. R n k ≡ Less) (λ k e. o.trans n m k below e) l all

  pub sorted_insert : (n : ℕ) (l : List ℕ) (i : ℕ) → IsPlace n l i → IsStrictlySortedBy R l → IsStrictlySortedBy R (insert l i n)
  unfolding IsStrictlySortedBy
  sorted_insert n [] zero place sorted = (tt, tt)
  sorted_insert n [] (suc i) place sorted = (tt, tt)
  sorted_insert n (m ∷ ms) zero place sorted =
      let below : R n m ≡ Less = greater_back m n place.1.0 in
      ((below, all_below n m ms below sorted.0), sorted)
  sorted_insert n (m ∷ ms) (suc i) place sorted =
      (all_insert (λ k. R m k ≡ Less) ms i n sorted.0 place.0.0, sorted_insert n ms i (place.0.1, place.1) sorted.1)

  pub sorted_remove : (l : List ℕ) (i : ℕ) → IsStrictlySortedBy R l → IsStrictlySortedBy R (remove l i)
  unfolding IsStrictlySortedBy
  sorted_remove [] zero sorted = tt
  sorted_remove [] (suc i) sorted = tt
  sorted_remove (m ∷ ms) zero sorted = sorted.1
  sorted_remove (m ∷ ms) (suc i) sorted = (all_remove (λ k. R m k ≡ Less) ms i sorted.0, sorted_remove ms i sorted.1)

  -- the first of these tests decides where the number goes
  less_first : (n m : ℕ) (x y : List ℕ) → R n m ≡ Less → (if is_lt (R n m) then x else y) ≡ x
  less_first n m x y e = ap (λ r. if is_lt r then x else y) e

  greater_next : (n m : ℕ) (x y : List ℕ) → R n m ≡ Greater → (if is_lt (R n m) then x else y) ≡ y
  greater_next n m x y e = ap (λ r. if is_lt r then x else y) e

  -- what the tests of a search say of all numbers on one side
  pub below_middle : (n : ℕ) (l : List ℕ) (middle : ℕ) → IsStrictlySortedBy R l → middle < length l → ((d : ℕ) → R (get_or l middle d) n ≡ Less)
      → (k d : ℕ) → k < middle + 1 → R (get_or l k d) n ≡ Less
  below_middle n l middle sorted within less k d low = by (cases_order k middle)
    where
      by : (k ≡ middle) ⊎ ((k < middle) ⊎ (middle < k)) → R (get_or l k d) n ≡ Less
      by (inl e) = ap (λ i. R (get_or l i d) n) e ∙ less d
      by (inr (inl below)) = o.trans (get_or l k d) (get_or l middle d) n (Less-from_sorted R l k middle d sorted below within) (less d)
      by (inr (inr above)) = absurd (omega arith)

  pub above_middle : (n : ℕ) (l : List ℕ) (middle : ℕ) → IsStrictlySortedBy R l → ((d : ℕ) → R (get_or l middle d) n ≡ Greater)
      → (k d : ℕ) → middle ≤ k → k < length l → R (get_or l k d) n ≡ Greater
  above_middle n l middle sorted greater k d low high = by (cases_order k middle)
    where
      by : (k ≡ middle) ⊎ ((k < middle) ⊎ (middle < k)) → R (get_or l k d) n ≡ Greater
      by (inl e) = ap (λ i. R (get_or l i d) n) e ∙ greater d
      by (inr (inl below)) = absurd (omega arith)
      by (inr (inr above)) =
          less_back n (get_or l k d) (o.trans n (get_or l middle d) (get_or l k d) (greater_back (get_or l middle d) n (greater d)) (Less-from_sorted R l middle k d sorted above high))

-- ---- lists in key order

module _ (keys : List Key) where
  pub inserted_is : (n : ℕ) (l : List ℕ) (i : ℕ) → IsPlace (number_cmp keys) (number_total keys) n l i → inserted keys n l ≡ insert l i n
  inserted_is n [] zero place = refl
  inserted_is n [] (suc i) place = refl
  inserted_is n (m ∷ ms) zero place = less_first (number_cmp keys) (number_total keys) n m _ _ (greater_back (number_cmp keys) (number_total keys) m n place.1.0)
  inserted_is n (m ∷ ms) (suc i) place =
      greater_next (number_cmp keys) (number_total keys) n m _ _ (less_back (number_cmp keys) (number_total keys) m n place.0.0)
      ∙ ap (λ l. m ∷ l) (inserted_is n ms i (place.0.1, place.1))

  pub place_from : (n : ℕ) (l : List ℕ) (i : ℕ) → IsPartitionPoint (λ m. number_cmp keys m n ≡ Less) (λ m. number_cmp keys m n ≡ Greater) l i → IsPlace (number_cmp keys) (number_total keys) n l i
  place_from n l i part = split_all (λ m. number_cmp keys m n ≡ Less) (λ m. number_cmp keys m n ≡ Greater) l i part

  pub ascends_insert : (n : ℕ) (l : List ℕ) (i : ℕ) → n < length keys → IsPartitionPoint (λ m. number_cmp keys m n ≡ Less) (λ m. number_cmp keys m n ≡ Greater) l i → Ascends keys l
      → Ascends keys (insert l i n)
  ascends_insert n l i known part ascends = record {
    known = all_insert (λ m. m < length keys) l i n ascends.known known;
    rising = sorted_insert (number_cmp keys) (number_total keys) n l i (place_from n l i part) ascends.rising;
  }

  pub ascends_remove : (l : List ℕ) (i : ℕ) → Ascends keys l → Ascends keys (remove l i)
  ascends_remove l i ascends = record {
    known = all_remove (λ m. m < length keys) l i ascends.known;
    rising = sorted_remove (number_cmp keys) (number_total keys) l i ascends.rising;
  }

  -- numbers of one key are one number
  pub same_number : (m n : ℕ) → IsDistinct (eq_by_cmp key_cmp) keys → m < length keys → n < length keys → number_cmp keys m n ≡ Equal → m ≡ n
  unfolding key_at
  same_number m n distinct below known tied = by (cases_order m n)
    where
      by : (m ≡ n) ⊎ ((m < n) ⊎ (n < m)) → m ≡ n
      by (inl e) = e
      by (inr (inl low)) = absurd (true≢false (sym (ap is_eq tied) ∙ apart_from_distinct (eq_by_cmp key_cmp) keys m n no_key distinct low known))
      by (inr (inr high)) =
          let back : key_cmp (key_at keys n) (key_at keys m) ≡ Equal = key_cmp_total.antisymm (key_at keys n) (key_at keys m) ∙ ap ordering_reverse tied in
          absurd (true≢false (sym (ap is_eq back) ∙ apart_from_distinct (eq_by_cmp key_cmp) keys n m no_key distinct high below))

-- ---- leaving a list

-- without a number that stands at a place, in a list in order
pub without_is : (keys : List Key) (n : ℕ) (l : List ℕ) (i : ℕ) → IsStrictlySortedBy (number_cmp keys) l → slice_get l i ≡ Some n → without n l ≡ remove l i
unfolding IsStrictlySortedBy
without_is keys n [] i sorted at = cc
without_is keys n (m ∷ ms) zero sorted at = let e : m ≡ n = cc in ap (λ b. if b then ms else m ∷ without n ms) (eq-eqb m n e)
without_is keys n (m ∷ ms) (suc i) sorted at =
    let less : number_cmp keys m n ≡ Less = at_place (λ k. number_cmp keys m k ≡ Less) ms i n sorted.0 at in
    ap (λ b. if b then ms else m ∷ without n ms) (less_differs (number_cmp keys) (number_total keys) m n less)
    ∙ ap (λ l. m ∷ l) (without_is keys n ms i sorted.1 at)
  where
    at_place : (P : ℕ → Type 0) (l : List ℕ) (i n : ℕ) → AllByRecursion P l → slice_get l i ≡ Some n → P n
    at_place P [] i n all at = cc
    at_place P (m ∷ ms) zero n all at = let e : m ≡ n = cc in subst P e all.0
    at_place P (m ∷ ms) (suc i) n all at = at_place P ms i n all.1 at
