-- Laws of numbers: they tell things apart, they stay while the list grows, and each place has its thing's number.
use Rattle.std.proofs.Common.{◌≡◌, ◌∙◌, sym, ap, refl, ℕ, ◌+◌, ◌<◌, arith, List, [], ◌∷◌, ◌++◌, length, length-append, slice_get, Some, Bool, true, false, append-nil, ne_eqb, subst, get_or, zero, suc}
use Rattle.std.specs.Prelude.{◌==◌, ◌||◌, not, cond, IsSomeAnd}
use Rattle.std.specs.Cmp.{IsEquivalence}
use Rattle.std.specs.List.{IsDistinct}
use Rattle.std.proofs.lemmas.Grind.{common_steps}
use Rattle.std.proofs.lemmas.Map.Keys.{IsDistinct-push, apart_from_distinct, any_passes_from_place}
use Rattle.std.proofs.lemmas.List.Sums.{position_or_len_is, passes_at_first}
use Rattle.std.proofs.lemmas.Option.{get_or_from_slice_get, slice_get-get_or}
use Rattle.std.proofs.Math.Dec.{eqb-suc-suc}
use Rattle.numbering.specs.Numbers.{is_known, number_of, with_thing, IsNumberOf, Keeps}

one_suc : (a : ℕ) → 1 + a ≡ suc a
one_suc a = omega arith

one_more : (a b : ℕ) → (1 + a == 1 + b) ≡ (a == b)
one_more a b = rw (one_suc a, one_suc b) (eqb-suc-suc a b)

within : {X : Type 0} (xs : List X) (i : ℕ) (x : X) → slice_get xs i ≡ Some x → i < length xs
within [] i x e = cc
within (y ∷ ys) zero x e = omega arith
within (y ∷ ys) (suc i) x e = let rest = within ys i x e in omega arith

module _ {T : Type 0} (same : T → T → Bool) where
  first : (b : Bool) (x : T) (xs : List T) (thing : T) → same thing x ≡ b → number_of same (x ∷ xs) thing ≡ cond (not b) (1 + number_of same xs thing) 0
  first b x xs thing e = ap (λ b. cond (not b) (1 + number_of same xs thing) 0) e

  known_rest : (x : T) (xs : List T) (thing : T) → same thing x ≡ false → is_known same (x ∷ xs) thing ≡ is_known same xs thing
  known_rest x xs thing e = ap (λ b. b || is_known same xs thing) e

  pub known_more : (things more : List T) (thing : T) → is_known same things thing ≡ true → is_known same (things ++ more) thing ≡ true
  known_more [] more thing h = cc
  known_more (x ∷ xs) more thing h = by (λ k. known_more xs more thing k) (same thing x) refl
    where
      by : (is_known same xs thing ≡ true → is_known same (xs ++ more) thing ≡ true) → (b : Bool) → same thing x ≡ b → is_known same ((x ∷ xs) ++ more) thing ≡ true
      by rest true e = ap (λ b. b || is_known same (xs ++ more) thing) e
      by rest false e = known_rest x (xs ++ more) thing e ∙ rest (sym (known_rest x xs thing e) ∙ h)

  pub number_more : (things more : List T) (thing : T) → is_known same things thing ≡ true → number_of same (things ++ more) thing ≡ number_of same things thing
  number_more [] more thing h = cc
  number_more (x ∷ xs) more thing h = by (λ k. number_more xs more thing k) (same thing x) refl
    where
      by : (is_known same xs thing ≡ true → number_of same (xs ++ more) thing ≡ number_of same xs thing) → (b : Bool) → same thing x ≡ b → number_of same ((x ∷ xs) ++ more) thing ≡ number_of same (x ∷ xs) thing
      by rest true e = first true x (xs ++ more) thing e ∙ sym (first true x xs thing e)
      by rest false e = first false x (xs ++ more) thing e ∙ ap (λ n. 1 + n) (rest (sym (known_rest x xs thing e) ∙ h)) ∙ sym (first false x xs thing e)

  pub number_beyond : (things more : List T) (thing : T) → is_known same things thing ≡ false → number_of same (things ++ more) thing ≡ length things + number_of same more thing
  number_beyond [] more thing h = omega arith
  number_beyond (x ∷ xs) more thing h = by (λ k. number_beyond xs more thing k) (same thing x) refl
    where
      by : (is_known same xs thing ≡ false → number_of same (xs ++ more) thing ≡ length xs + number_of same more thing) → (b : Bool) → same thing x ≡ b → number_of same ((x ∷ xs) ++ more) thing ≡ length (x ∷ xs) + number_of same more thing
      by rest true e = let clash : true ≡ false = sym (ap (λ b. b || is_known same xs thing) e) ∙ h in cc
      by rest false e =
          let next = rest (sym (known_rest x xs thing e) ∙ h) in
          let here = first false x (xs ++ more) thing e in
          omega arith

  pub number_below : (things : List T) (thing : T) → is_known same things thing ≡ true → number_of same things thing < length things
  number_below [] thing h = cc
  number_below (x ∷ xs) thing h = by (λ k. number_below xs thing k) (same thing x) refl
    where
      by : (is_known same xs thing ≡ true → number_of same xs thing < length xs) → (b : Bool) → same thing x ≡ b → number_of same (x ∷ xs) thing < length (x ∷ xs)
      by rest true e = let here = first true x xs thing e in omega arith
      by rest false e =
          let next = rest (sym (known_rest x xs thing e) ∙ h) in
          let here = first false x xs thing e in
          omega arith

  pub keeps_itself : (things : List T) → Keeps same things things
  keeps_itself things = record {
    known = λ thing h. h;
    same_number = λ thing h. refl;
    longer = omega arith;
    new_number = λ thing h.
        let next : number_of same (things ++ []) thing ≡ length things + 0 = number_beyond things [] thing h in
        let whole : things ++ [] ≡ things = append-nil things in
        let here : number_of same things thing ≡ length things + 0 = ap (λ xs. number_of same xs thing) (sym whole) ∙ next in
        omega arith;
  }

  pub keeps_more : (things more : List T) → Keeps same things (things ++ more)
  keeps_more things more = record {
    known = λ thing h. known_more things more thing h;
    same_number = λ thing h. number_more things more thing h;
    longer = omega (arith, length-append things more);
    new_number = λ thing h. let next = number_beyond things more thing h in omega arith;
  }

  keeps_by : (b : Bool) (things more : List T) → Keeps same things (cond b things (things ++ more))
  keeps_by true things more = keeps_itself things
  keeps_by false things more = keeps_more things more

  pub keeps_with : (things : List T) (thing : T) → Keeps same things (with_thing same things thing)
  keeps_with things thing = keeps_by (is_known same things thing) things (thing ∷ [])

  pub keeps_same : {old new : List T} → new ≡ old → Keeps same old new
  keeps_same {old} {new} e = subst (λ xs. Keeps same old xs) (sym e) (keeps_itself old)

  -- the thing that has just got a number is known by it
  pub new_is_number : IsEquivalence same → (things : List T) (thing : T) → is_known same things thing ≡ false → IsNumberOf same (things ++ thing ∷ []) thing (length things)
  new_is_number laws things thing h =
      let itself : same thing thing ≡ true = laws.refl thing in
      let known : (xs : List T) → is_known same (xs ++ thing ∷ []) thing ≡ true = known_last itself in
      let place : number_of same (thing ∷ []) thing ≡ 0 = first true thing [] thing itself in
      let next : number_of same (things ++ thing ∷ []) thing ≡ length things + number_of same (thing ∷ []) thing = number_beyond things (thing ∷ []) thing h in
      record { known = known things; is = omega arith }
    where
      known_last : same thing thing ≡ true → (xs : List T) → is_known same (xs ++ thing ∷ []) thing ≡ true
      known_last e [] = ap (λ b. b || false) e
      known_last e (x ∷ xs) = grind (arith, common_steps, known_last e xs)

  -- after a new thing was put last
  pub keeps_after : (old new : List T) (thing : T) → new ≡ with_thing same old thing → Keeps same old new
  keeps_after old new thing e = subst (λ xs. Keeps same old xs) (sym e) (keeps_with old thing)

  pub number_after : IsEquivalence same → (old new : List T) (thing : T) (number : ℕ) → new ≡ with_thing same old thing → is_known same old thing ≡ false → number ≡ length old
      → IsNumberOf same new thing number
  number_after laws old new thing number e unknown last =
      let after : new ≡ old ++ thing ∷ [] = e ∙ ap (λ b. cond b old (old ++ thing ∷ [])) unknown in
      subst (λ n. IsNumberOf same new thing n) (sym last)
      (subst (λ xs. IsNumberOf same xs thing (length old)) (sym after) (new_is_number laws old thing unknown))

  pub distinct_with : IsEquivalence same → (things : List T) (thing : T) → IsDistinct same things → IsDistinct same (with_thing same things thing)
  distinct_with laws things thing distinct = by (is_known same things thing) refl
    where
      by : (b : Bool) → is_known same things thing ≡ b → IsDistinct same (cond b things (things ++ thing ∷ []))
      by true e = distinct
      by false e = IsDistinct-push laws things thing distinct e

  -- a known thing has the same number as any thing that is the same, and as no other
  pub alike : IsEquivalence same → (things : List T) (thing other : T) → is_known same things thing ≡ true → (number_of same things thing == number_of same things other) ≡ same thing other
  alike laws [] thing other h = cc
  alike laws (x ∷ xs) thing other h = by (λ k. alike laws xs thing other k) (same thing x) (same other x) refl refl
    where
      by : (is_known same xs thing ≡ true → (number_of same xs thing == number_of same xs other) ≡ same thing other)
          → (b c : Bool) → same thing x ≡ b → same other x ≡ c → (number_of same (x ∷ xs) thing == number_of same (x ∷ xs) other) ≡ same thing other
      by rest true true e f =
          let one : number_of same (x ∷ xs) thing ≡ 0 = first true x xs thing e in
          let two : number_of same (x ∷ xs) other ≡ 0 = first true x xs other f in
          let tied : same thing other ≡ true = laws.congr thing x other e ∙ laws.symm x other ∙ f in
          rw (one, two, tied)
      by rest true false e f =
          let one : number_of same (x ∷ xs) thing ≡ 0 = first true x xs thing e in
          let two : number_of same (x ∷ xs) other ≡ 1 + number_of same xs other = first false x xs other f in
          ne_eqb _ _ (λ h. absurd (omega arith)) ∙ sym (laws.congr thing x other e ∙ laws.symm x other ∙ f)
      by rest false true e f =
          let one : number_of same (x ∷ xs) thing ≡ 1 + number_of same xs thing = first false x xs thing e in
          let two : number_of same (x ∷ xs) other ≡ 0 = first true x xs other f in
          ne_eqb _ _ (λ h. absurd (omega arith)) ∙ sym (laws.symm thing other ∙ laws.congr other x thing f ∙ laws.symm x thing ∙ e)
      by rest false false e f =
          let one : number_of same (x ∷ xs) thing ≡ 1 + number_of same xs thing = first false x xs thing e in
          let two : number_of same (x ∷ xs) other ≡ 1 + number_of same xs other = first false x xs other f in
          let next = rest (sym (known_rest x xs thing e) ∙ h) in
          ap (λ n. n == number_of same (x ∷ xs) other) one ∙ ap (λ m. (1 + number_of same xs thing) == m) two ∙ one_more _ _ ∙ next

  -- each place has the number of its thing
  pub number_at : IsEquivalence same → (things : List T) (thing : T) (number : ℕ) → IsDistinct same things → slice_get things number ≡ Some thing → IsNumberOf same things thing number
  number_at laws things thing number distinct at =
      let inside : number < length things = within things number thing at in
      let here : get_or things number thing ≡ thing = get_or_from_slice_get things number thing thing at in
      let itself : same thing (get_or things number thing) ≡ true = rw here (laws.refl thing) in
      let before : (k : ℕ) → k < number → same thing (get_or things k thing) ≡ false = λ k low.
      laws.symm thing (get_or things k thing)
      ∙ subst (λ t. same (get_or things k thing) t ≡ false) here (apart_from_distinct same things k number thing distinct low inside) in
      let place : number_of same things thing ≡ number = position_or_len_is (same thing) things number thing (omega arith) before (λ low. itself) in
      record {
        known = any_passes_from_place (same thing) things number thing at (laws.refl thing);
        is = sym place;
      }

  -- the number of a known thing is the place of one that is the same
  pub thing_at : (things : List T) (thing : T) → is_known same things thing ≡ true → IsSomeAnd (slice_get things (number_of same things thing)) (λ found. same thing found ≡ true)
  thing_at things thing h =
      let low : number_of same things thing < length things = number_below things thing h in
      let found : slice_get things (number_of same things thing) ≡ Some (get_or things (number_of same things thing) thing) = slice_get-get_or things (number_of same things thing) thing low in
      rw found (passes_at_first (same thing) things thing low)
