-- Laws of rows by number: what is written under one number, and pages that grow.
use Rattle.std.proofs.Common.{◌≡◌, ◌∙◌, sym, ap, refl, ℕ, ◌<◌, ◌≤◌, ◌/◌, ◌%◌, arith, List, [], ◌∷◌, ◌++◌, length, slice_get, slice_index_or, slice_set, Option, Some, None, Bool, true, false, ne_eqb, zero, suc, unwrap_or}
use Rattle.std.specs.Prelude.{◌==◌, if◌then◌else◌, is_some, Vec, option_map}
use Rattle.std.specs.Vec.{with_item}
use Rattle.std.specs.Cmp.{unsigned_Decides}
use Rattle.std.specs.declared.alloc.Global.{Global}
use Rattle.std.proofs.Math.Nat.{div-add-mod}
use Rattle.std.proofs.Math.Dec.{eqb-suc-suc}
use Rattle.std.proofs.lemmas.Option.{unwrap_or-slice_get}
use Rattle.numbering.specs.declared.pages.Pages.{Pages}
use Rattle.numbering.specs.Pages.{row_in_page, there, row_or, with_in, with_row_under}

-- a page's number and a place in it tell numbers apart
same_number : (n m : ℕ) → n / 1024 ≡ m / 1024 → n % 1024 ≡ m % 1024 → n ≡ m
same_number n m pages places = let one = div-add-mod n 1024 in let two = div-add-mod m 1024 in omega arith

is_same : (n m : ℕ) → (n == m) ≡ true → n ≡ m
is_same n m e = (unsigned_Decides n m).0 e

same_is : (n m : ℕ) → n ≡ m → (n == m) ≡ true
same_is n m e = (unsigned_Decides n m).1 e

true_false : true ≡ false → ⊥
true_false e = cc

-- other numbers of one page have other places
is_apart : (n m : ℕ) → (n == m) ≡ false → ((n / 1024) == (m / 1024)) ≡ true → ((n % 1024) == (m % 1024)) ≡ false
is_apart n m apart same = ne_eqb (n % 1024) (m % 1024)
    (λ places. true_false (sym (same_is n m (same_number n m (is_same (n / 1024) (m / 1024) same) places)) ∙ apart))

module _ {X : Type 0} where
  get_set : (xs : List X) (i k : ℕ) (x : X) → slice_get (slice_set xs i x) k ≡ (if i == k then option_map (λ _. x) (slice_get xs k) else slice_get xs k)
  get_set [] i k x = by (i == k)
    where
      by : (b : Bool) → ◌≡◌ {A = Option X} None (if b then None else None)
      by true = refl
      by false = refl
  get_set (y ∷ ys) zero zero x = refl
  get_set (y ∷ ys) zero (suc k) x =
      ap (λ b. if b then option_map (λ _. x) (slice_get ys k) else slice_get ys k) (sym (ne_eqb 0 (suc k) (λ h. absurd (omega arith))))
  get_set (y ∷ ys) (suc i) zero x = ap (λ b. if b then Some x else Some y) (sym (ne_eqb (suc i) 0 (λ h. absurd (omega arith))))
  get_set (y ∷ ys) (suc i) (suc k) x =
      get_set ys i k x ∙ ap (λ b. if b then option_map (λ _. x) (slice_get ys k) else slice_get ys k) (sym (eqb-suc-suc i k))

  is_within : (xs : List X) (i : ℕ) → is_some (slice_get xs i) ≡ true → i < length xs
  is_within [] i h = absurd cc
  is_within (x ∷ xs) zero h = omega arith
  is_within (x ∷ xs) (suc i) h = let more = is_within xs i h in omega arith

  within_is : (xs : List X) (i : ℕ) → i < length xs → is_some (slice_get xs i) ≡ true
  within_is [] i h = absurd (omega arith)
  within_is (x ∷ xs) zero h = refl
  within_is (x ∷ xs) (suc i) h = within_is xs i (omega arith)

module _ {T : Type 0} where
  has_page : (pages : List (Vec T Global)) (i place : ℕ) → is_some (row_in_page (slice_get pages i) place) ≡ true → i < length pages
  has_page [] i place h = absurd cc
  has_page (page ∷ rest) zero place h = omega arith
  has_page (page ∷ rest) (suc i) place h = let more = has_page rest i place h in omega arith

  -- a page in place of the one that is there
  page_put : (pages : List (Vec T Global)) (page new : Vec T Global) (i k place : ℕ) → slice_get pages i ≡ Some page
      → row_in_page (slice_get (slice_set pages i new) k) place ≡ (if i == k then slice_get new.items place else row_in_page (slice_get pages k) place)
  page_put pages page new i k place e = ap (λ o. row_in_page o place) (get_set pages i k new) ∙ by (i == k) refl
    where
      by : (b : Bool) → (i == k) ≡ b → row_in_page (if b then option_map (λ _. new) (slice_get pages k) else slice_get pages k) place
          ≡ (if b then slice_get new.items place else row_in_page (slice_get pages k) place)
      by true same = ap (λ o. row_in_page (option_map (λ _. new) o) place) (ap (slice_get pages) (sym (is_same i k same)) ∙ e)
      by false apart = refl

  -- a page without rows at the end
  page_more : (pages : List (Vec T Global)) (page : Vec T Global) (i place : ℕ) → page.items ≡ [] → row_in_page (slice_get (pages ++ page ∷ []) i) place ≡ row_in_page (slice_get pages i) place
  page_more [] page zero place none = ap (λ rows. slice_get rows place) none
  page_more [] page (suc i) place none = refl
  page_more (first ∷ rest) page zero place none = refl
  page_more (first ∷ rest) page (suc i) place none = page_more rest page i place none

  pub page_there : (pages : Pages T) (n : ℕ) → is_some (there pages n) ≡ true → n / 1024 < length pages.pages.items
  unfolding there
  page_there pages n h = has_page pages.pages.items (n / 1024) (n % 1024) h

  -- where the page of a number is known
  module _ (pages : Pages T) (n : ℕ) (page : Vec T Global) (e : slice_get pages.pages.items (n / 1024) ≡ Some page) where
    pub there_is : there pages n ≡ slice_get page.items (n % 1024)
    unfolding there
    there_is = ap (λ o. row_in_page o (n % 1024)) e

    pub place_there : is_some (there pages n) ≡ true → n % 1024 < length page.items
    place_there h = is_within page.items (n % 1024) (ap is_some (sym there_is) ∙ h)

    pub with_row_is : (row : T) → ◌≡◌ {A = Pages T} (record { pages = with_item pages.pages (n / 1024) (with_item page (n % 1024) row) }) (with_row_under pages n row)
    unfolding with_row_under
    with_row_is row = ap (λ o. with_in pages o (n / 1024) (n % 1024) row) (sym e)

    -- another page in its place
    pub there_put : (new : Vec T Global) (m : ℕ)
        → there (record { pages = with_item pages.pages (n / 1024) new }) m ≡ (if (n / 1024) == (m / 1024) then slice_get new.items (m % 1024) else there pages m)
    unfolding there
    there_put new m = page_put pages.pages.items page new (n / 1024) (m / 1024) (m % 1024) e

    is_its : (m : ℕ) → ((n / 1024) == (m / 1024)) ≡ true → there pages m ≡ slice_get page.items (m % 1024)
    unfolding there
    is_its m same = ap (λ o. row_in_page o (m % 1024)) (ap (slice_get pages.pages.items) (sym (is_same (n / 1024) (m / 1024) same)) ∙ e)

    module _ (new : Vec T Global) (m : ℕ) where
      pub same_put : (blank : T) → ((i : ℕ) → slice_index_or new.items i blank ≡ slice_index_or page.items i blank)
          → row_or blank (record { pages = with_item pages.pages (n / 1024) new }) m ≡ row_or blank pages m
      same_put blank same = ap (λ o. unwrap_or o blank) (there_put new m) ∙ by ((n / 1024) == (m / 1024)) refl
        where
          by : (b : Bool) → ((n / 1024) == (m / 1024)) ≡ b → unwrap_or (if b then slice_get new.items (m % 1024) else there pages m) blank ≡ row_or blank pages m
          by true its = unwrap_or-slice_get new.items (m % 1024) blank ∙ same (m % 1024) ∙ sym (unwrap_or-slice_get page.items (m % 1024) blank)
              ∙ ap (λ o. unwrap_or o blank) (sym (is_its m its))
          by false apart = refl

      pub stays_put : length page.items ≤ length new.items → is_some (there pages m) ≡ true → is_some (there (record { pages = with_item pages.pages (n / 1024) new }) m) ≡ true
      stays_put longer h = ap is_some (there_put new m) ∙ by ((n / 1024) == (m / 1024)) refl
        where
          by : (b : Bool) → ((n / 1024) == (m / 1024)) ≡ b → is_some (if b then slice_get new.items (m % 1024) else there pages m) ≡ true
          by true its =
              let low = is_within page.items (m % 1024) (ap is_some (sym (is_its m its)) ∙ h) in
              within_is new.items (m % 1024) (omega arith)
          by false apart = h

    pub whole_put : (new : Vec T Global) → 1024 ≤ length new.items → is_some (there (record { pages = with_item pages.pages (n / 1024) new }) n) ≡ true
    whole_put new whole =
        ap is_some (there_put new n) ∙ ap (λ b. is_some (if b then slice_get new.items (n % 1024) else there pages n)) (same_is (n / 1024) (n / 1024) refl)
        ∙ within_is new.items (n % 1024) (omega arith)

  pub there_more : (old new : Pages T) (page : Vec T Global) → new.pages.items ≡ old.pages.items ++ page ∷ [] → page.items ≡ [] → (m : ℕ) → there new m ≡ there old m
  unfolding there
  there_more old new page e none m = ap (λ pages. row_in_page (slice_get pages (m / 1024)) (m % 1024)) e ∙ page_more old.pages.items page (m / 1024) (m % 1024) none

  pub there_same : (old new : Pages T) → new.pages.items ≡ old.pages.items → (m : ℕ) → there new m ≡ there old m
  unfolding there
  there_same old new e m = ap (λ pages. row_in_page (slice_get pages (m / 1024)) (m % 1024)) e

  -- ---- a row in place of one

  written : (pages : Pages T) (n m : ℕ) (row : T) (o : Option (Vec T Global)) → slice_get pages.pages.items (n / 1024) ≡ o → (b : Bool) → (n == m) ≡ b
      → there (with_row_under pages n row) m ≡ (if b then option_map (λ _. row) (there pages n) else there pages m)
  unfolding there with_row_under
  written pages n m row None e true is =
      ap (λ o. there (with_in pages o (n / 1024) (n % 1024) row) m) e ∙ ap (there pages) (sym (is_same n m is)) ∙ ap (λ o. row_in_page o (n % 1024)) e
      ∙ sym (ap (λ o. option_map (λ _. row) (row_in_page o (n % 1024))) e)
  written pages n m row None e false apart = ap (λ o. there (with_in pages o (n / 1024) (n % 1024) row) m) e
  written pages n m row (Some page) e b is =
      let new = with_item page (n % 1024) row in
      ap (λ p. there p m) (sym (with_row_is pages n page e row)) ∙ there_put pages n page e new m
      ∙ ap (λ o. if (n / 1024) == (m / 1024) then o else there pages m) (get_set page.items (n % 1024) (m % 1024) row)
      ∙ by e b is ((n / 1024) == (m / 1024)) refl
    where
      by : slice_get pages.pages.items (n / 1024) ≡ Some page → (b : Bool) → (n == m) ≡ b → (c : Bool) → ((n / 1024) == (m / 1024)) ≡ c
          → (if c then (if (n % 1024) == (m % 1024) then option_map (λ _. row) (slice_get page.items (m % 1024)) else slice_get page.items (m % 1024)) else there pages m)
          ≡ (if b then option_map (λ _. row) (there pages n) else there pages m)
      by known true is true same =
          let e : m ≡ n = sym (is_same n m is) in
          ap (λ k. if (n % 1024) == (k % 1024) then option_map (λ _. row) (slice_get page.items (k % 1024)) else slice_get page.items (k % 1024)) e
          ∙ ap (λ d. if d then option_map (λ _. row) (slice_get page.items (n % 1024)) else slice_get page.items (n % 1024)) (same_is (n % 1024) (n % 1024) refl)
          ∙ ap (λ o. option_map (λ _. row) o) (sym (there_is pages n page known))
      by known true is false apart = absurd (true_false (sym (same_is (n / 1024) (m / 1024) (ap (λ k. k / 1024) (is_same n m is))) ∙ apart))
      by known false apart true same =
          ap (λ d. if d then option_map (λ _. row) (slice_get page.items (m % 1024)) else slice_get page.items (m % 1024)) (is_apart n m apart same)
          ∙ sym (is_its pages n page known m same)
      by known false apart false other = refl

  -- what is written under a number that is there stands under it, and no other row changes
  pub there_with_row : (pages : Pages T) (n m : ℕ) (row : T) → there (with_row_under pages n row) m ≡ (if n == m then option_map (λ _. row) (there pages n) else there pages m)
  there_with_row pages n m row = written pages n m row (slice_get pages.pages.items (n / 1024)) refl (n == m) refl

  pub row_or_with_row : (blank : T) (pages : Pages T) (n m : ℕ) (row : T) → is_some (there pages n) ≡ true
      → row_or blank (with_row_under pages n row) m ≡ (if n == m then row else row_or blank pages m)
  row_or_with_row blank pages n m row h = ap (λ o. unwrap_or o blank) (there_with_row pages n m row) ∙ by (there pages n) h (n == m)
    where
      by : (o : Option T) → is_some o ≡ true → (b : Bool) → unwrap_or (if b then option_map (λ _. row) o else there pages m) blank ≡ (if b then row else row_or blank pages m)
      by None h b = absurd (true_false (sym h))
      by (Some was) h true = refl
      by (Some was) h false = refl
