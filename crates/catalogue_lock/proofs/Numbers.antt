-- Items and their numbers.
use Rattle.std.proofs.Common.{◌≡◌, ◌≢◌, ℕ, Bool, true, false, List, [], ◌∷◌, ◌++◌, length, Option, Some, None, if◌then◌else◌, refl, ap, sym, ◌∙◌, arith, eq-eqb, ne_eqb, length-append}
use mathlib.Core.List.{IsPrefix, map-append}
use Rattle.std.proofs.lemmas.List.{append-nil}
use Rattle.catalogue_lock.specs.declared.view.Numbered.{Numbered}
use Rattle.catalogue_lock.specs.History.{items, numbered, items_by, is_same_number}

same_self : (by : Option ℕ) → is_same_number by by ≡ true
same_self None = refl
same_self (Some k) = eq-eqb k k refl

pub other_number : (j k : ℕ) → j ≢ k → is_same_number (Some j) (Some k) ≡ false
other_number j k ne = ne_eqb j k ne

module _ {I : Type 0} where
  one_more : (b : Bool) (x : I) (p q r : List I) → p ≡ q ++ r → (if b then x ∷ p else p) ≡ (if b then x ∷ q else q) ++ r
  one_more true x p q r e = ap (λ z. x ∷ z) e
  one_more false x p q r e = e

  pub items_by-append : (by : Option ℕ) (xs ys : List (Numbered I)) → items_by by (xs ++ ys) ≡ items_by by xs ++ items_by by ys
  items_by-append by [] ys = refl
  items_by-append by (x ∷ xs) ys = one_more (is_same_number by x.by) x.item _ _ _ (items_by-append by xs ys)

  -- what was added under a number is what has it
  pub items_by-own : (by : Option ℕ) (xs : List I) → items_by by (numbered by xs) ≡ xs
  items_by-own by [] = refl
  items_by-own by (x ∷ xs) = rw (same_self by) (ap (λ z. x ∷ z) (items_by-own by xs))

  -- and nothing of it has another
  pub items_by-other : (by other : Option ℕ) (xs : List I) → is_same_number by other ≡ false → items_by by (numbered other xs) ≡ []
  items_by-other by other [] e = refl
  items_by-other by other (x ∷ xs) e = rw e (items_by-other by other xs e)

  pub items-append : (xs ys : List (Numbered I)) → items (xs ++ ys) ≡ items xs ++ items ys
  items-append xs ys = map-append (λ (e : Numbered I). e.item) xs ys

  pub items-numbered : (by : Option ℕ) (xs : List I) → items (numbered by xs) ≡ xs
  items-numbered by [] = refl
  items-numbered by (x ∷ xs) = ap (λ z. x ∷ z) (items-numbered by xs)

  pub length-items : (xs : List (Numbered I)) → length (items xs) ≡ length xs
  length-items [] = refl
  length-items (x ∷ xs) = omega (arith, length-items xs)

  pub length-numbered : (by : Option ℕ) (xs : List I) → length (numbered by xs) ≡ length xs
  length-numbered by [] = refl
  length-numbered by (x ∷ xs) = omega (arith, length-numbered by xs)

  none_left : (xs ys : List I) → length (xs ++ ys) ≡ length xs → ys ≡ []
  none_left xs [] e = refl
  none_left xs (y ∷ ys) e = absurd (omega (arith, length-append xs (y ∷ ys)))

  -- between two beginnings that have the same items under a number each has them
  pub own_between : (by : Option ℕ) (xs ys zs : List (Numbered I)) (own : List I) → IsPrefix xs ys → IsPrefix ys zs → items_by by xs ≡ own → items_by by zs ≡ own → items_by by ys ≡ own
  own_between by xs ys zs own p q before after =
      let first : items_by by ys ≡ own ++ items_by by p.0 = ap (items_by by) (sym p.1) ∙ (items_by-append by xs p.0 ∙ ap (λ z. z ++ items_by by p.0) before) in
      let second : own ≡ (own ++ items_by by p.0) ++ items_by by q.0 = sym after ∙ (ap (items_by by) (sym q.1) ∙ (items_by-append by ys q.0 ∙ ap (λ z. z ++ items_by by q.0) first)) in
      let none : items_by by p.0 ≡ [] = none_left own (items_by by p.0)
      (omega (arith, ap length second, length-append (own ++ items_by by p.0) (items_by by q.0), length-append own (items_by by p.0))) in
      first ∙ (ap (λ z. own ++ z) none ∙ append-nil own)
