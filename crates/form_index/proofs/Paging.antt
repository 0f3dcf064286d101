-- The rows of pages as one list: what it has at each number, and what a change of the pages leaves of it.
use Rattle.std.proofs.Common.{◌≡◌, ◌∙◌, sym, ap, refl, ℕ, zero, suc, ◌≤◌, ◌/◌, ◌%◌, ◌*◌, arith, [], length, Option, Some, None, slice_get, get_or}
use Rattle.std.specs.Prelude.{Bool, true, false, ◌==◌, is_some, unwrap_or, if◌then◌else◌}
use Rattle.std.specs.Option.{option_map}
use Rattle.std.proofs.lemmas.Bool.{eqb-true}
use Rattle.std.proofs.lemmas.Nat.{le-div}
use Rattle.std.proofs.lemmas.Option.{slice_get_past}
use Rattle.numbering.specs.Pages.{is_there, row_in_page, row_or, there, with_row_under}
use Rattle.numbering.specs.declared.pages.Pages.{Pages}
use Rattle.numbering.proofs.Pagelaws.{row_or_with_row, there_with_row}
use Rattle.form_index.specs.Paged.{firsts, flat}
use Rattle.form_index.specs.Trimmed.{trimmed}
use Rattle.form_index.proofs.Trims.{all_blank}

-- ---- the first numbers

firsts_at : {X : Type 0} (blank : X) (f : ℕ → X) (n i : ℕ) → (n ≤ i → f i ≡ blank) → get_or (firsts f n) i blank ≡ f i
firsts_at blank f zero i beyond = sym (beyond (omega arith))
firsts_at blank f (suc n) zero beyond = refl
firsts_at blank f (suc n) (suc i) beyond = firsts_at blank (λ k. f (suc k)) n i (λ low. beyond (omega (arith, low)))

-- ---- no page beyond the last

module _ {X : Type 0} where
  beyond : (pages : Pages X) (n : ℕ) → length pages.pages.items * 1024 ≤ n → there pages n ≡ None
  unfolding there
  beyond pages n high =
      let page : slice_get pages.pages.items (n / 1024) ≡ None = slice_get_past pages.pages.items (n / 1024) (le-div (length pages.pages.items) n 1024 (omega arith) high) in
      ap (λ page. row_in_page page (n % 1024)) page

  -- ---- what is at a number

  pub flat_at : (blank : X) (pages : Pages X) (n : ℕ) → get_or (flat blank pages) n blank ≡ row_or blank pages n
  unfolding flat
  flat_at blank pages n = firsts_at blank (row_or blank pages) (length pages.pages.items * 1024) n (λ high. ap (λ o. unwrap_or o blank) (beyond pages n high))

  pub flat_some : (blank : X) (pages : Pages X) (n : ℕ) (row : X) → there pages n ≡ Some row → get_or (flat blank pages) n blank ≡ row
  flat_some blank pages n row at = flat_at blank pages n ∙ ap (λ o. unwrap_or o blank) at

  pub flat_none : (blank : X) (pages : Pages X) (n : ℕ) → there pages n ≡ None → get_or (flat blank pages) n blank ≡ blank
  flat_none blank pages n at = flat_at blank pages n ∙ ap (λ o. unwrap_or o blank) at

  -- ---- changes

  pub flat_same : (blank : X) (old new : Pages X) → ((n : ℕ) → row_or blank new n ≡ row_or blank old n) → (n : ℕ) → get_or (flat blank new) n blank ≡ get_or (flat blank old) n blank
  flat_same blank old new same n = flat_at blank new n ∙ same n ∙ sym (flat_at blank old n)

  pub flat_with_row : (blank : X) (pages : Pages X) (n : ℕ) (row : X) → is_there pages n ≡ true → (m : ℕ)
      → get_or (flat blank (with_row_under pages n row)) m blank ≡ (if n == m then row else get_or (flat blank pages) m blank)
  flat_with_row blank pages n row at m =
      flat_at blank (with_row_under pages n row) m ∙ row_or_with_row blank pages n m row at ∙ ap (λ z. if n == m then row else z) (sym (flat_at blank pages m))

  pub stays_there : (pages : Pages X) (n : ℕ) (row : X) (m : ℕ) → is_there pages m ≡ true → is_there (with_row_under pages n row) m ≡ true
  stays_there pages n row m at = ap is_some (there_with_row pages n m row) ∙ by (n == m) refl
    where
      kept : (o : Option X) → is_some (option_map (λ _. row) o) ≡ is_some o
      kept None = refl
      kept (Some x) = refl

      by : (b : Bool) → (n == m) ≡ b → is_some (if n == m then option_map (λ _. row) (there pages n) else there pages m) ≡ true
      by true e =
          ap (λ b. is_some (if b then option_map (λ _. row) (there pages n) else there pages m)) e ∙ kept (there pages n)
          ∙ ap (is_there pages) (eqb-true n m e) ∙ at
      by false e = ap (λ b. is_some (if b then option_map (λ _. row) (there pages n) else there pages m)) e ∙ at

  -- ---- pages without rows

  pub flat_blank : (blank : X) (is_blank : X → Bool) (decides : (x : X) → is_blank x ≡ true → x ≡ blank) (itself : is_blank blank ≡ true) (pages : Pages X)
      → ((n : ℕ) → there pages n ≡ None) → trimmed is_blank (flat blank pages) ≡ []
  flat_blank blank is_blank decides itself pages none = all_blank blank is_blank decides itself (flat blank pages) (λ n. flat_none blank pages n (none n))
