-- In the order of targets the holdings of a record stand one behind the other.
use Rattle.std.proofs.Common.{◌≡◌, ◌∙◌, ℕ, zero, suc, ◌-◌, ◌≤◌, Bool, true, false, List, [], ◌∷◌, length, take, drop, refl, sym, ap, arith}
use Rattle.std.specs.Prelude.{filter, not, ◌&&◌}
use Rattle.std.specs.declared.cmp.Ordering.{Ordering}
use Rattle.std.specs.declared.cmp.Ordering.TheVariants.{Less, Equal, Greater}
use Rattle.std.specs.Ordering.{is_eq, is_lt, is_le, ordering_index, ordering_reverse}
use Rattle.std.specs.List.Sorted.{IsSorted, IsStable, IsPartitionedBy, IsNonDecreasingBy, ties}
use Rattle.std.proofs.lemmas.List.Sorted.{searchable_from_sorted}
use Rattle.marc_types.specs.Order.{key_cmp, key_cmp_total}
use Rattle.marc_types.specs.declared.key.Key.{Key}
use Rattle.holdings.specs.Shelves.{ShelfRow, target_of_row, belongs_to, holdings_of}
use Rattle.holdings.specs.ByTarget.{target_cmp, IsByTarget, compared, is_below_key, is_upto_key, IsPlace}

-- a row with that target
abbrev with_target : Key → ShelfRow
with_target key = (key, record { target_number = key.number; written = [] })

tied : (key : Key) (row : ShelfRow) → ties (λ x y. is_lt (target_cmp x y)) (with_target key) row ≡ belongs_to key row
unfolding target_cmp
tied key row = at (key_cmp (target_of_row row) key) (key_cmp key (target_of_row row)) (key_cmp_total.antisymm key (target_of_row row))
  where
    at : (o p : Ordering) → p ≡ ordering_reverse o → (not (is_lt p) && not (is_lt o)) ≡ is_eq o
    at Less p is = rw is refl
    at Equal p is = rw is refl
    at Greater p is = rw is refl

tied_rows : (key : Key) (rows : List ShelfRow) → filter (ties (λ x y. is_lt (target_cmp x y)) (with_target key)) rows ≡ holdings_of key rows
tied_rows key rows = λ i. filter (λ row. tied key row i) rows

-- a stable sort by the targets leaves each target's holdings in their order
pub sorted_by_target : (shelf rows : List ShelfRow) → IsSorted target_cmp rows → IsStable target_cmp shelf rows → IsByTarget shelf rows
sorted_by_target shelf rows ordered stable = record {
  ordered = ordered;
  same = λ key. sym (tied_rows key rows) ∙ stable (with_target key) ∙ tied_rows key shelf;
}

module _ {X : Type 0} (p : X → Bool) (x : X) (xs : List X) where
  first_fails : IsPlace p (x ∷ xs) 0 → p x ≡ false
  first_fails place = place.1 0 x (omega arith) (omega arith)

  first_passes : (n : ℕ) → IsPlace p (x ∷ xs) (suc n) → p x ≡ true
  first_passes n place = place.0 0 x (omega arith) (omega arith)

  behind_failing : IsPlace p (x ∷ xs) 0 → IsPlace p xs 0
  behind_failing place = (λ k d low high. absurd (omega (arith, high)), λ k d low high. place.1 (suc k) d (omega arith) (omega (arith, high)))

  behind_passing : (n : ℕ) → IsPlace p (x ∷ xs) (suc n) → IsPlace p xs n
  behind_passing n place =
      (λ k d low high. place.0 (suc k) d (omega arith) (omega (arith, high)), λ k d low high. place.1 (suc k) d (omega (arith, low)) (omega (arith, high)))

nothing_of : {X : Type 0} (xs : List X) (n m : ℕ) → xs ≡ [] → take m (drop n xs) ≡ []
nothing_of [] zero zero is = refl
nothing_of [] zero (suc m) is = refl
nothing_of [] (suc n) zero is = refl
nothing_of [] (suc n) (suc m) is = refl
nothing_of (x ∷ xs) n m is = cc

-- of elements below, equal and above, the equal ones stand between two places
module _ {X : Type 0} (below upto equal : X → Bool) (both : (x : X) → below x ≡ true → upto x ≡ true)
    (is_below : (x : X) → below x ≡ true → equal x ≡ false) (is_above : (x : X) → upto x ≡ false → equal x ≡ false)
    (is_equal : (x : X) → below x ≡ false → upto x ≡ true → equal x ≡ true) where
  pub ends_behind : (xs : List X) (first end : ℕ) → IsPlace below xs first → IsPlace upto xs end → first ≤ length xs → first ≤ end
  ends_behind [] first end p q few = omega (arith, few)
  ends_behind (x ∷ xs) zero end p q few = omega arith
  ends_behind (x ∷ xs) (suc first) zero p q few =
      let no : true ≡ false = sym (both x (first_passes below x xs first p)) ∙ first_fails upto x xs q in cc
  ends_behind (x ∷ xs) (suc first) (suc end) p q few =
      omega (arith, ends_behind xs first end (behind_passing below x xs first p) (behind_passing upto x xs end q) (omega (arith, few)))

  pub between : (xs : List X) (first end : ℕ) → IsPlace below xs first → IsPlace upto xs end → take (end - first) (drop first xs) ≡ filter equal xs
  between [] first end p q = nothing_of [] first (end - first) refl
  between (x ∷ xs) zero zero p q =
      rw (is_above x (first_fails upto x xs q)) (between xs 0 0 (behind_failing below x xs p) (behind_failing upto x xs q))
  between (x ∷ xs) zero (suc end) p q =
      let more : suc end - 0 ≡ suc (end - 0) = omega arith in
      rw (more, is_equal x (first_fails below x xs p) (first_passes upto x xs end q))
      (ap (λ l. x ∷ l) (between xs 0 end (behind_failing below x xs p) (behind_passing upto x xs end q)))
  between (x ∷ xs) (suc first) zero p q =
      let no : true ≡ false = sym (both x (first_passes below x xs first p)) ∙ first_fails upto x xs q in cc
  between (x ∷ xs) (suc first) (suc end) p q =
      let same : suc end - suc first ≡ end - first = omega arith in
      rw (same, is_below x (first_passes below x xs first p)) (between xs first end (behind_passing below x xs first p) (behind_passing upto x xs end q))

module _ (key : Key) (rows : List ShelfRow) (ordered : IsSorted target_cmp rows) where
  rises : IsNonDecreasingBy (λ row. ordering_index (compared key row)) rows
  unfolding target_cmp
  rises = searchable_from_sorted key_cmp_total target_of_row rows key ordered

  pub parted_below : IsPartitionedBy (is_below_key key) rows
  parted_below i j d low high = at _ _ (rises i j d low high)
    where
      at : (o p : Ordering) → ordering_index o ≤ ordering_index p → is_lt p ≡ true → is_lt o ≡ true
      at Less p few is = refl
      at Equal Less few is = absurd (omega (arith, few))
      at Equal Equal few is = is
      at Equal Greater few is = is
      at Greater Less few is = absurd (omega (arith, few))
      at Greater Equal few is = is
      at Greater Greater few is = is

  pub parted_upto : IsPartitionedBy (is_upto_key key) rows
  parted_upto i j d low high = at _ _ (rises i j d low high)
    where
      at : (o p : Ordering) → ordering_index o ≤ ordering_index p → is_le p ≡ true → is_le o ≡ true
      at Less p few is = refl
      at Equal p few is = refl
      at Greater Less few is = absurd (omega (arith, few))
      at Greater Equal few is = absurd (omega (arith, few))
      at Greater Greater few is = is

both_at : (o : Ordering) → is_lt o ≡ true → is_le o ≡ true
both_at Less is = refl
both_at Equal is = refl
both_at Greater is = is

below_at : (o : Ordering) → is_lt o ≡ true → is_eq o ≡ false
below_at Less is = refl
below_at Equal is = cc
below_at Greater is = refl

above_at : (o : Ordering) → is_le o ≡ false → is_eq o ≡ false
above_at Less is = refl
above_at Equal is = cc
above_at Greater is = refl

equal_at : (o : Ordering) → is_lt o ≡ false → is_le o ≡ true → is_eq o ≡ true
equal_at Less is upto = cc
equal_at Equal is upto = refl
equal_at Greater is upto = cc

module _ (key : Key) (rows : List ShelfRow) (first end : ℕ) (p : IsPlace (is_below_key key) rows first) (q : IsPlace (is_upto_key key) rows end) where
  pub places_in_order : first ≤ length rows → first ≤ end
  places_in_order few =
      ends_behind (is_below_key key) (is_upto_key key) (belongs_to key) (λ row. both_at (compared key row))
      (λ row. below_at (compared key row)) (λ row. above_at (compared key row)) (λ row. equal_at (compared key row)) rows first end p q few

  pub group_between : take (end - first) (drop first rows) ≡ holdings_of key rows
  group_between =
      between (is_below_key key) (is_upto_key key) (belongs_to key) (λ row. both_at (compared key row))
      (λ row. below_at (compared key row)) (λ row. above_at (compared key row)) (λ row. equal_at (compared key row)) rows first end p q
