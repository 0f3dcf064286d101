-- The later part of a lock's history, where each item has a number, and each number the items of its own loader.
use Rattle.std.proofs.Common.{◌≡◌, ◌∙◌, ℕ, ◌<◌, ◌≤◌, ◌==◌, Bool, true, false, List, [], ◌∷◌, Option, Some, None, if◌then◌else◌, true≢false, refl, sym, ap, subst, eq-eqb, ne_eqb, eqb-true, ltb-true, ltb-false}
use Rattle.std.specs.Prelude.{nat_lt}
use Rattle.std.specs.List.{AllByRecursion}
use Rattle.marc_types.specs.declared.entry.Entry.{Entry}
use Rattle.entry_history.specs.declared.event.Event.{Event}
use Rattle.entry_history.specs.declared.event.Event.TheVariants.{Committed, Broke}
use Rattle.catalogue_lock.specs.declared.view.Numbered.{Numbered}
use Rattle.catalogue_lock.specs.History.{items_by}

abbrev pub IsOfLoader : ℕ → Entry → Type 0
IsOfLoader loader e = e.loader ≡ loader

-- all entries of the event are this loader's
abbrev pub IsBy : ℕ → Event → Type 0
IsBy loader (Committed e) = IsOfLoader loader e
IsBy loader (Broke es) = AllByRecursion (IsOfLoader loader) es

-- each item has a number below `callers`, and is of the loader with its number
pub data Owned (callers : ℕ) : List (Numbered Event) → Type 0 where
  NoItem : Owned callers []
  OneMore : (number : ℕ) (event : Event) (rest : List (Numbered Event)) → number < callers → IsBy number event → Owned callers rest
      → Owned callers (record { by = Some number; item = event } ∷ rest)

pub same_either_way : (j k : ℕ) → (j == k) ≡ (k == j)
same_either_way j k = decided (k == j) refl
  where
    decided : (b : Bool) → (k == j) ≡ b → (j == k) ≡ b
    decided true e = eq-eqb j k (sym (eqb-true k j e))
    decided false e = ne_eqb j k (λ same. true≢false (sym (eq-eqb k j (sym same)) ∙ e))

module _ {X : Type 0} where
  tail_none : (b : Bool) (x : X) (xs : List X) → (if b then x ∷ xs else xs) ≡ [] → xs ≡ []
  tail_none true x xs none = absurd (cc none)
  tail_none false x xs none = none

  tail_all : (P : X → Type 0) (b : Bool) (x : X) (xs : List X) → AllByRecursion P (if b then x ∷ xs else xs) → AllByRecursion P xs
  tail_all P true x xs all = all.1
  tail_all P false x xs all = all

  pub chosen : (k : ℕ) (x : X) (xs : List X) → (if k == k then x ∷ xs else xs) ≡ x ∷ xs
  chosen k x xs = ap (λ (b : Bool). if b then x ∷ xs else xs) (eq-eqb k k refl)

module _ (callers : ℕ) where
  below : (j : ℕ) (event : Event) (rest : List Event) → (callers ≤ j → (if j == j then event ∷ rest else rest) ≡ []) → j < callers
  below j event rest none = decided (nat_lt j callers) refl
    where
      decided : (b : Bool) → nat_lt j callers ≡ b → j < callers
      decided true e = ltb-true j callers e
      decided false e = absurd (cc (sym (chosen j event rest), none (ltb-false j callers e)))

  one_owned : (by : Option ℕ) (event : Event) (rest : List (Numbered Event)) → items_by None (record { by = by; item = event } ∷ rest) ≡ []
      → ((n : ℕ) → callers ≤ n → items_by (Some n) (record { by = by; item = event } ∷ rest) ≡ [])
      → ((n : ℕ) → n < callers → AllByRecursion (IsBy n) (items_by (Some n) (record { by = by; item = event } ∷ rest)))
      → Owned callers rest → Owned callers (record { by = by; item = event } ∷ rest)
  one_owned None event rest unnumbered nobody own others = absurd (cc unnumbered)
  one_owned (Some j) event rest unnumbered nobody own others =
      let lt = below j event (items_by (Some j) rest) (nobody j) in
      let here = subst (AllByRecursion (IsBy j)) (chosen j event (items_by (Some j) rest)) (own j lt) in
      OneMore j event rest lt here.0 others

  -- where no item is unnumbered, no number is `callers` or more, and each number has its own loader's events
  pub owned : (later : List (Numbered Event)) → items_by None later ≡ [] → ((n : ℕ) → callers ≤ n → items_by (Some n) later ≡ [])
      → ((n : ℕ) → n < callers → AllByRecursion (IsBy n) (items_by (Some n) later)) → Owned callers later
  owned [] unnumbered nobody own = NoItem
  owned (x ∷ xs) unnumbered nobody own =
      one_owned x.by x.item xs unnumbered nobody own
      (owned xs (tail_none _ x.item (items_by None xs) unnumbered) (λ n le. tail_none _ x.item (items_by (Some n) xs) (nobody n le))
      (λ n lt. tail_all (IsBy n) _ x.item (items_by (Some n) xs) (own n lt)))
