-- The first of a list that passes, found place by place.
use Rattle.std.proofs.Common.{◌≡◌, ◌∙◌, refl, sym, ap, subst, arith, ℕ, ◌+◌, ◌<◌, zero, suc, Bool, true, false, cond, List, [], ◌∷◌, get_or, length, take, Option, Some, None}
use Rattle.std.specs.Prelude.{find, slice_get}
use Rattle.std.specs.List.{list_any}
use Rattle.std.specs.Option.{option_map_or}
use Rattle.std.specs.Borrow.{Bor}
use Rattle.std.proofs.lemmas.List.{get_or-map, length-map}
use Rattle.std.proofs.lemmas.List.Folds.{list_any_at}
use Rattle.marc_types.specs.declared.key.Key.{Key}
use Rattle.catalogue_tables.specs.Sharing.{shown_keys}

module _ {A : Type 0} (test : A → Bool) where
  found_at : (b : Bool) (x : A) (rest all more : Option A) → cond b (Some x) rest ≡ None → (rest ≡ None → more ≡ all) → more ≡ cond b (Some x) all
  found_at true x rest all more none ih = cc none
  found_at false x rest all more none ih = ih none

  -- what passes at a place is found, where nothing before it passes
  pub found_here : (xs : List A) (i : ℕ) → find test (take i xs) ≡ None → option_map_or test (slice_get xs i) false ≡ true → slice_get xs i ≡ find test xs
  found_here [] i none here = cc here
  found_here (x ∷ xs) zero none here = rw here refl
  found_here (x ∷ xs) (suc i) none here =
      found_at (test x) x (find test (take i xs)) (find test xs) (slice_get xs i) none (λ n. found_here xs i n here)

  over_at : (b : Bool) (x : A) (rest more : Option A) → cond b (Some x) rest ≡ None → (rest ≡ None → more ≡ None) → cond b (Some x) more ≡ None
  over_at true x rest more none ih = cc none
  over_at false x rest more none ih = ih none

  over_suc : (xs : List A) (i : ℕ) → find test (take i xs) ≡ None → option_map_or test (slice_get xs i) false ≡ false → find test (take (suc i) xs) ≡ None
  over_suc [] i none here = refl
  over_suc (x ∷ xs) zero none here = rw here refl
  over_suc (x ∷ xs) (suc i) none here =
      over_at (test x) x (find test (take i xs)) (find test (take (suc i) xs)) none (λ n. over_suc xs i n here)

  -- a place is passed over, where what is there doesn't pass
  pub passed_over : (xs : List A) (i : ℕ) → find test (take i xs) ≡ None → option_map_or test (slice_get xs i) false ≡ false → find test (take (i + 1) xs) ≡ None
  passed_over xs i none here =
      let next : suc i ≡ i + 1 = omega arith in subst (λ (n : ℕ). find test (take n xs) ≡ None) next (over_suc xs i none here)

-- ---- whether one of a list passes

module _ {A : Type 0} (test : A → Bool) where
  -- what passes at a place settles the answer
  pub some_pass : (xs : List A) (i : ℕ) (x : A) → i < length xs → x ≡ get_or xs i x → test x ≡ true → list_any test xs ≡ true
  some_pass xs i x within is so = list_any_at test xs i x within (ap test (sym is) ∙ so)

-- what passes among keys as they are lent
pub some_lent : (test : Key → Bool) (keys : List (Bor Key)) (i : ℕ) (key : Bor Key) → i < length keys → key ≡ get_or keys i key → test key.now ≡ true
    → list_any test (shown_keys keys) ≡ true
some_lent test keys i key within is so =
    let long = length-map keys (λ (key : Bor Key). key.now) in
    some_pass test (shown_keys keys) i key.now (omega (arith, long, within))
    (ap (λ (k : Bor Key). k.now) is ∙ sym (get_or-map (λ (k : Bor Key). k.now) keys i key key.now within)) so
