-- A group's things that pass a test are all that pass, where the group counts each of them.
use Rattle.std.proofs.Common.{◌≡◌, ◌∙◌, refl, ℕ, ◌≤◌, List, [], ◌∷◌, Option, Bool, true, false}
use Rattle.std.specs.Prelude.{cond, ◌&&◌, filter}
use Rattle.std.specs.List.{list_any, IsDistinct, AllByRecursion}
use Rattle.std.proofs.lemmas.Map.Views.{any-filter_same}
use Rattle.std.proofs.lemmas.Map.Keys.{IsDistinct-head, IsDistinct-tail, IsDistinct-cons}
use Rattle.postings.specs.Listed.{ListsEach, HasEach}
use Rattle.postings.proofs.Rows.{at_thing}
use Rattle.std.specs.Bool.{Decides}

module _ {P : Type 0} (same : P → P → Bool) where
  kept_apart : (test : P → Bool) (x : P) (xs : List P) → AllByRecursion (λ y. same x y ≡ false) xs → AllByRecursion (λ y. same x y ≡ false) (filter test xs)
  kept_apart test x [] h = tt
  kept_apart test x (y ∷ ys) h = by (kept_apart test x ys h.1) (test y)
    where
      by : AllByRecursion (λ y. same x y ≡ false) (filter test ys) → (b : Bool) → AllByRecursion (λ y. same x y ≡ false) (cond b (y ∷ filter test ys) (filter test ys))
      by rest true = (h.0, rest)
      by rest false = rest

  distinct_filter : (test : P → Bool) (xs : List P) → IsDistinct same xs → IsDistinct same (filter test xs)
  distinct_filter test [] d = d
  distinct_filter test (x ∷ xs) d = by (distinct_filter test xs (IsDistinct-tail same x xs d)) (test x)
    where
      by : IsDistinct same (filter test xs) → (b : Bool) → IsDistinct same (cond b (x ∷ filter test xs) (filter test xs))
      by rest true = IsDistinct-cons same x (filter test xs) (kept_apart test x xs (IsDistinct-head same x xs d)) rest
      by rest false = rest

  and_then : (b c : Bool) → (b ≡ true → c ≡ true) → (b && c) ≡ b
  and_then true c h = h refl
  and_then false c h = refl

  sifted : (test : P → Bool) (times : P → ℕ) (things : List P) → ((p q : P) → same p q ≡ true → test q ≡ test p) → ((p : P) → test p ≡ true → 1 ≤ times p)
      → HasEach same times things → ListsEach same test (filter test things)
  sifted test times things alike counted has = record {
    each = λ p. any-filter_same (same p) test (test p) (λ k e. alike p k e) things ∙ and_then (test p) (list_any (same p) things) (λ e. has.each p (counted p e));
    once = distinct_filter test things has.once;
  }

-- where the test is of a thing's row, and a count has each thing whose row passes
module _ {P R : Type 0} {same : P → P → Bool} (decides : (x y : P) → Decides (same x y) (x ≡ y)) (test : Option R → Bool) (row : P → Option R) (times : P → ℕ)
    (counted : (p : P) → test (row p) ≡ true → 1 ≤ times p) where
  pub things_listed : (things : List P) → HasEach same times things → ListsEach same (λ p. test (row p)) (filter (λ p. test (row p)) things)
  things_listed things has = sifted same (λ p. test (row p)) times things (λ one p e. at_thing decides (λ q. test (row q)) one p e) counted has
