-- How often a list has a thing, where one comes or goes, and a list that has each thing once.
use Rattle.std.proofs.Common.{◌≡◌, ◌∙◌, sym, ap, refl, subst, ℕ, ◌+◌, ◌-◌, ◌<◌, ◌≤◌, arith, Bool, true, false, List, [], ◌∷◌, ◌++◌, length, take, get_or}
use Rattle.std.specs.Prelude.{cond, if◌then◌else◌, ◌||◌}
use Rattle.std.specs.Cmp.{IsEquivalence}
use Rattle.std.specs.List.{remove, list_any, IsDistinct}
use Rattle.std.proofs.lemmas.List.Sums.{sum_by-remove, sum_by_more}
use Rattle.std.proofs.lemmas.List.Folds.{list_any-append}
use Rattle.std.proofs.lemmas.Map.Keys.{IsDistinct-push}
use Rattle.std.proofs.lemmas.Map.Steps.{list_any_congr}
use Rattle.postings.specs.Group.{times_among}
use Rattle.postings.specs.Listed.{HasEach}

has_none : {P : Type 0} (same : P → P → Bool) (times : P → ℕ) → ((p : P) → times p ≡ 0) → HasEach same times []
unfolding IsDistinct
has_none same times none = record { each = λ p h. let e = none p in absurd (omega arith); once = tt }

-- where nothing is counted an empty list will do
pub has_nothing : {P : Type 0} (same : P → P → Bool) (times : P → ℕ) (things : List P) → things ≡ [] → ((p : P) → times p ≡ 0) → HasEach same times things
has_nothing same times things none no_times = subst (λ xs. HasEach same times xs) (sym none) (has_none same times no_times)

less_none : (b : Bool) (n : ℕ) → (b ≡ true → n ≡ 0) → n ≡ n - (if b then 1 else 0)
less_none true n none = let e = none refl in omega arith
less_none false n none = omega arith

counts_once : (b : Bool) → 1 ≤ (if b then 1 else 0) → b ≡ true
counts_once true h = refl
counts_once false h = absurd (omega arith)

found_by : (b : Bool) (n m : ℕ) (found : Bool) → m ≡ n + cond b 1 0 → (b ≡ true → found ≡ true) → (1 ≤ n → found ≡ true) → 1 ≤ m → found ≡ true
found_by true n m found e now before h = now refl
found_by false n m found e now before h = before (omega arith)

or_right_by : (a b : Bool) → b ≡ true → (a || b) ≡ true
or_right_by true b e = refl
or_right_by false b e = e

or_left_by : (a b : Bool) → a ≡ true → (a || b) ≡ true
or_left_by true b e = refl
or_left_by false b e = absurd cc

module _ {P : Type 0} {same : P → P → Bool} (laws : IsEquivalence same) where
  -- the thing at a place goes
  pub removed : (xs : List P) (i : ℕ) (thing d : P) → i < length xs → same (get_or xs i d) thing ≡ true
      → (p : P) → times_among same (remove xs i) p ≡ times_among same xs p - (if same thing p then 1 else 0)
  removed xs i thing d low e p =
      let whole = sum_by-remove (λ one. cond (same one p) 1 0) xs i d low in
      let here : ◌≡◌ {A = ℕ} (cond (same (get_or xs i d) p) 1 0) (cond (same thing p) 1 0) = ap (λ b. cond b 1 0) (laws.congr (get_or xs i d) thing p e) in
      omega arith

  -- a thing that isn't there
  pub still_none : (xs : List P) (i : ℕ) (thing d : P) → i < length xs → same (get_or xs i d) thing ≡ false
      → ((p : P) → same thing p ≡ true → times_among same (take i xs) p ≡ 0) → (p : P) → same thing p ≡ true → times_among same (take (i + 1) xs) p ≡ 0
  still_none xs i thing d low differs before p e =
      let more = sum_by_more (λ one. cond (same one p) 1 0) xs i d low in
      let none = before p e in
      let apart : ◌≡◌ {A = ℕ} (cond (same (get_or xs i d) p) 1 0) 0 =
      ap (λ b. cond b 1 0) (laws.symm (get_or xs i d) p ∙ sym (laws.congr thing p (get_or xs i d) e) ∙ laws.symm thing (get_or xs i d) ∙ differs) in
      omega arith

  pub none_gone : (xs : List P) (thing : P) → ((p : P) → same thing p ≡ true → times_among same xs p ≡ 0) → (p : P) → times_among same xs p ≡ times_among same xs p - (if same thing p then 1 else 0)
  none_gone xs thing none p = less_none (same thing p) (times_among same xs p) (none p)

  -- one thing
  only_one : (one : P) → HasEach same (λ p. if same one p then 1 else 0) (one ∷ [])
  unfolding IsDistinct
  only_one one = record {
    each = λ p h. or_left_by (same p one) false (laws.symm p one ∙ counts_once (same one p) h);
    once = (tt, tt);
  }

  pub has_one : (one : P) (things : List P) → things ≡ one ∷ [] → HasEach same (λ p. if same one p then 1 else 0) things
  has_one one things e = subst (λ xs. HasEach same (λ p. if same one p then 1 else 0) xs) (sym e) (only_one one)

  -- a list that has each of the first things once has each of one more
  flipped : (x : P) (ys : List P) → list_any (λ y. same y x) ys ≡ list_any (same x) ys
  flipped x ys = λ i. list_any (λ y. laws.symm y x i) ys

  has_known : (x : P) (ys : List P) (before after : P → ℕ) → ((p : P) → after p ≡ before p + cond (same x p) 1 0) → list_any (λ y. same y x) ys ≡ true
      → HasEach same before ys → HasEach same after ys
  has_known x ys before after more known has = record {
    each = λ p h. found_by (same x p) (before p) (after p) (list_any (same p) ys) (more p) (λ e. sym (list_any_congr laws x p ys e) ∙ sym (flipped x ys) ∙ known) (has.each p) h;
    once = has.once;
  }

  has_new : (x : P) (ys : List P) (before after : P → ℕ) → ((p : P) → after p ≡ before p + cond (same x p) 1 0) → list_any (λ y. same y x) ys ≡ false
      → HasEach same before ys → HasEach same after (ys ++ x ∷ [])
  has_new x ys before after more new has = record {
    each = λ p h. list_any-append (same p) ys (x ∷ []) ∙ found_by (same x p) (before p) (after p) (list_any (same p) ys || list_any (same p) (x ∷ [])) (more p)
        (λ e. or_right_by (list_any (same p) ys) (list_any (same p) (x ∷ [])) (or_left_by (same p x) false (laws.symm p x ∙ e)))
        (λ low. or_left_by (list_any (same p) ys) (list_any (same p) (x ∷ [])) (has.each p low)) h;
    once = IsDistinct-push laws ys x has.once (sym (flipped x ys) ∙ new);
  }

  has_by : (b : Bool) (x : P) (ys : List P) (before after : P → ℕ) → ((p : P) → after p ≡ before p + cond (same x p) 1 0) → list_any (λ y. same y x) ys ≡ b
      → HasEach same before ys → HasEach same after (if b then ys else ys ++ x ∷ [])
  has_by true x ys before after more e has = has_known x ys before after more e has
  has_by false x ys before after more e has = has_new x ys before after more e has

  pub has_more : (xs ys now : List P) (i : ℕ) (x : P) → i < length xs → x ≡ get_or xs i x → now ≡ (if list_any (λ y. same y x) ys then ys else ys ++ x ∷ [])
      → HasEach same (times_among same (take i xs)) ys → HasEach same (times_among same (take (i + 1) xs)) now
  has_more xs ys now i x low there e has =
      subst (λ zs. HasEach same (times_among same (take (i + 1) xs)) zs) (sym e)
      (has_by (list_any (λ y. same y x) ys) x ys (times_among same (take i xs)) (times_among same (take (i + 1) xs))
      (λ p. sum_by_more (λ one. cond (same one p) 1 0) xs i x low ∙ ap (λ y. times_among same (take i xs) p + cond (same y p) 1 0) (sym there)) refl has)
