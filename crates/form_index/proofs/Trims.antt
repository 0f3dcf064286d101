-- Lists without the blanks at their ends are told apart by what they have at each number.
use Rattle.std.proofs.Common.{◌≡◌, ◌∙◌, sym, ap, refl, ℕ, zero, suc, arith, List, [], ◌∷◌, get_or, eq-eqb, ne_eqb}
use Rattle.std.specs.Prelude.{Bool, true, false, ◌==◌, if◌then◌else◌}
use Rattle.std.proofs.lemmas.Bool.{both_ways, eqb-true}
use Rattle.form_index.specs.Trimmed.{prepend, trimmed, with_at}

module _ {X : Type 0} (blank : X) (is_blank : X → Bool) (decides : (x : X) → is_blank x ≡ true → x ≡ blank) (itself : is_blank blank ≡ true) where
  first_at : (x : X) (xs : List X) → get_or (prepend is_blank x xs) 0 blank ≡ x
  first_at x [] = by (is_blank x) refl
    where
      by : (b : Bool) → is_blank x ≡ b → get_or (if is_blank x then [] else x ∷ []) 0 blank ≡ x
      by true e = ap (λ b. get_or (if b then [] else x ∷ []) 0 blank) e ∙ sym (decides x e)
      by false e = ap (λ b. get_or (if b then [] else x ∷ []) 0 blank) e
  first_at x (y ∷ ys) = refl

  next_at : (x : X) (xs : List X) (n : ℕ) → get_or (prepend is_blank x xs) (suc n) blank ≡ get_or xs n blank
  next_at x [] n = by (is_blank x) refl
    where
      by : (b : Bool) → is_blank x ≡ b → get_or (if is_blank x then [] else x ∷ []) (suc n) blank ≡ blank
      by true e = ap (λ b. get_or (if b then [] else x ∷ []) (suc n) blank) e
      by false e = ap (λ b. get_or (if b then [] else x ∷ []) (suc n) blank) e
  next_at x (y ∷ ys) n = refl

  pub trimmed_at : (xs : List X) (n : ℕ) → get_or (trimmed is_blank xs) n blank ≡ get_or xs n blank
  trimmed_at [] n = refl
  trimmed_at (x ∷ xs) zero = first_at x (trimmed is_blank xs)
  trimmed_at (x ∷ xs) (suc n) = next_at x (trimmed is_blank xs) n ∙ trimmed_at xs n

  pub all_blank : (xs : List X) → ((n : ℕ) → get_or xs n blank ≡ blank) → trimmed is_blank xs ≡ []
  all_blank [] all = refl
  all_blank (x ∷ xs) all =
      ap (prepend is_blank x) (all_blank xs (λ n. all (suc n)))
      ∙ ap (λ b. if b then [] else x ∷ []) (ap is_blank (all 0) ∙ itself)

  pub same_trimmed : (xs ys : List X) → ((n : ℕ) → get_or xs n blank ≡ get_or ys n blank) → trimmed is_blank xs ≡ trimmed is_blank ys
  same_trimmed [] [] same = refl
  same_trimmed [] (y ∷ ys) same = sym (all_blank (y ∷ ys) (λ n. sym (same n)))
  same_trimmed (x ∷ xs) [] same = all_blank (x ∷ xs) same
  same_trimmed (x ∷ xs) (y ∷ ys) same =
      ap (λ z. prepend is_blank z (trimmed is_blank xs)) (same 0) ∙ ap (prepend is_blank y) (same_trimmed xs ys (λ n. same (suc n)))

  pub trimmed_again : (xs : List X) → trimmed is_blank (trimmed is_blank xs) ≡ trimmed is_blank xs
  trimmed_again xs = same_trimmed (trimmed is_blank xs) xs (trimmed_at xs)

  -- lists with no blank at the end that have the same at each number are the same list
  pub same_short : (xs ys : List X) → trimmed is_blank xs ≡ xs → trimmed is_blank ys ≡ ys → ((n : ℕ) → get_or xs n blank ≡ get_or ys n blank) → xs ≡ ys
  same_short xs ys short too same = sym short ∙ same_trimmed xs ys same ∙ too

eq_suc : (m n : ℕ) → (suc m == suc n) ≡ (m == n)
eq_suc m n = by (m == n) refl
  where
    by : (b : Bool) → (m == n) ≡ b → (suc m == suc n) ≡ (m == n)
    by true e = eq-eqb (suc m) (suc n) (ap suc (eqb-true m n e)) ∙ sym e
    by false e = ne_eqb (suc m) (suc n) (λ h. absurd (apart e (omega arith))) ∙ sym e
      where
        apart : (m == n) ≡ false → m ≡ n → ⊥
        apart e h = both_ways (m == n) e (eq-eqb m n h)

module _ {X : Type 0} (blank : X) where
  with_at_step : (n m : ℕ) (x y z : X) → y ≡ (if m == n then x else z) → y ≡ (if suc m == suc n then x else z)
  with_at_step n m x y z e = e ∙ ap (λ b. if b then x else z) (sym (eq_suc m n))

  pub with_at_at : (n : ℕ) (x : X) (xs : List X) (m : ℕ) → get_or (with_at blank n x xs) m blank ≡ (if m == n then x else get_or xs m blank)
  with_at_at zero x [] zero = refl
  with_at_at zero x [] (suc m) = ap (λ b. if b then x else blank) (sym (ne_eqb (suc m) 0 (λ h. absurd (omega arith))))
  with_at_at zero x (y ∷ ys) zero = refl
  with_at_at zero x (y ∷ ys) (suc m) = ap (λ b. if b then x else get_or ys m blank) (sym (ne_eqb (suc m) 0 (λ h. absurd (omega arith))))
  with_at_at (suc n) x [] zero = ap (λ b. if b then x else blank) (sym (ne_eqb 0 (suc n) (λ h. absurd (omega arith))))
  with_at_at (suc n) x [] (suc m) = with_at_step n m x (get_or (with_at blank n x []) m blank) blank (with_at_at n x [] m)
  with_at_at (suc n) x (y ∷ ys) zero = ap (λ b. if b then x else y) (sym (ne_eqb 0 (suc n) (λ h. absurd (omega arith))))
  with_at_at (suc n) x (y ∷ ys) (suc m) = with_at_step n m x (get_or (with_at blank n x ys) m blank) (get_or ys m blank) (with_at_at n x ys m)
