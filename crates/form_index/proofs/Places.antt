-- What a list has after a step, number by number, and that a step back undoes it.
use Rattle.std.proofs.Common.{◌≡◌, ◌⊎◌, inl, inr, ◌∙◌, sym, ap, subst, refl, ℕ, List, [], ◌∷◌, eq-eqb, ne_eqb}
use Rattle.std.specs.Prelude.{Bool, true, false, not, ◌||◌, ◌&&◌, ◌==◌, if◌then◌else◌}
use Rattle.std.specs.List.{AllByRecursion}
use Rattle.std.specs.List.Sorted.{IsStrictlySortedBy}
use Rattle.std.specs.Ordering.{is_lt}
use Rattle.std.specs.declared.cmp.Ordering.TheVariants.{Less, Greater}
use Rattle.std.proofs.lemmas.Bool.{true≢false, both_ways, eqb-true}
use Rattle.marc_types.specs.declared.key.Key.{Key}
use Rattle.form_index.specs.Order.{Ascends, has, number_cmp, inserted, without}
use Rattle.form_index.specs.Listed.{Listed, released, entered, withdrawn, with_held}
use Rattle.form_index.proofs.Ordered.{greater_differs, less_back, number_total}

itself : (n : ℕ) → (n == n) ≡ true
itself n = eq-eqb n n refl

pub turn : (m n : ℕ) → (m == n) ≡ (n == m)
turn m n = by (m == n) refl
  where
    by : (b : Bool) → (m == n) ≡ b → (m == n) ≡ (n == m)
    by true e = e ∙ sym (eq-eqb n m (sym (eqb-true m n e)))
    by false e = e ∙ sym (ne_eqb n m (λ h. both_ways (m == n) e (eq-eqb m n (sym h))))

or_swap : (a b c : Bool) → (a || (b || c)) ≡ (b || (a || c))
or_swap true true c = refl
or_swap true false c = refl
or_swap false b c = refl

module _ (keys : List Key) (n : ℕ) where
  pub has_inserted : (m : ℕ) (l : List ℕ) → has m (inserted keys n l) ≡ ((n == m) || has m l)
  has_inserted m [] = refl
  has_inserted m (k ∷ ks) = by (is_lt (number_cmp keys n k)) refl (has_inserted m ks)
    where
      by : (b : Bool) → is_lt (number_cmp keys n k) ≡ b → has m (inserted keys n ks) ≡ ((n == m) || has m ks) → has m (inserted keys n (k ∷ ks)) ≡ ((n == m) || ((k == m) || has m ks))
      by true e rest = ap (λ b. has m (if b then n ∷ k ∷ ks else k ∷ inserted keys n ks)) e
      by false e rest =
          ap (λ b. has m (if b then n ∷ k ∷ ks else k ∷ inserted keys n ks)) e ∙ ap (λ b. (k == m) || b) rest ∙ or_swap (k == m) (n == m) (has m ks)

  -- a number that stands nowhere else goes as it came
  pub without_inserted : (l : List ℕ) → has n l ≡ false → without n (inserted keys n l) ≡ l
  without_inserted [] out = ap (λ b. if b then [] else n ∷ []) (itself n)
  without_inserted (k ∷ ks) out = by (λ h. without_inserted ks h) (is_lt (number_cmp keys n k)) refl (k == n) refl
    where
      by : (has n ks ≡ false → without n (inserted keys n ks) ≡ ks) → (b : Bool) → is_lt (number_cmp keys n k) ≡ b → (d : Bool) → (k == n) ≡ d → without n (inserted keys n (k ∷ ks)) ≡ k ∷ ks
      by rest true e d same = ap (λ b. without n (if b then n ∷ k ∷ ks else k ∷ inserted keys n ks)) e ∙ ap (λ b. if b then k ∷ ks else n ∷ without n (k ∷ ks)) (itself n)
      by rest false e true same = absurd (true≢false (sym (ap (λ b. b || has n ks) same) ∙ out))
      by rest false e false same =
          ap (λ b. without n (if b then n ∷ k ∷ ks else k ∷ inserted keys n ks)) e
          ∙ ap (λ b. if b then inserted keys n ks else k ∷ without n (inserted keys n ks)) same
          ∙ ap (λ l. k ∷ l) (rest (sym (ap (λ b. b || has n ks) same) ∙ out))

  all_above : (l : List ℕ) → AllByRecursion (λ k. number_cmp keys n k ≡ Less) l → inserted keys n l ≡ n ∷ l
  all_above [] all = refl
  all_above (k ∷ ks) all = ap (λ r. if is_lt r then n ∷ k ∷ ks else k ∷ inserted keys n ks) all.0

  above_out : (l : List ℕ) → AllByRecursion (λ k. number_cmp keys n k ≡ Less) l → has n l ≡ false
  above_out [] all = refl
  above_out (k ∷ ks) all =
      ap (λ b. b || has n ks) (greater_differs (number_cmp keys) (number_total keys) k n (less_back (number_cmp keys) (number_total keys) n k all.0)) ∙ above_out ks all.1

  -- a number of a list in order goes from it whole, and comes back to its place
  pub gone : (l : List ℕ) → IsStrictlySortedBy (number_cmp keys) l → has n (without n l) ≡ false
  unfolding IsStrictlySortedBy
  gone [] sorted = refl
  gone (m ∷ ms) sorted = by (gone ms sorted.1) (m == n) refl
    where
      by : has n (without n ms) ≡ false → (b : Bool) → (m == n) ≡ b → has n (without n (m ∷ ms)) ≡ false
      by rest true e =
          ap (λ b. has n (if b then ms else m ∷ without n ms)) e ∙ above_out ms (subst (λ k. AllByRecursion (λ y. number_cmp keys k y ≡ Less) ms) (eqb-true m n e) sorted.0)
      by rest false e = ap (λ b. has n (if b then ms else m ∷ without n ms)) e ∙ ap (λ b. b || has n (without n ms)) e ∙ rest

  below_it : (m : ℕ) (l : List ℕ) → AllByRecursion (λ k. number_cmp keys m k ≡ Less) l → has n l ≡ true → number_cmp keys m n ≡ Less
  below_it m [] all there = absurd (true≢false (sym there))
  below_it m (k ∷ ks) all there = by (λ h. below_it m ks all.1 h) (k == n) refl
    where
      by : (has n ks ≡ true → number_cmp keys m n ≡ Less) → (b : Bool) → (k == n) ≡ b → number_cmp keys m n ≡ Less
      by rest true e = subst (λ z. number_cmp keys m z ≡ Less) (eqb-true k n e) all.0
      by rest false e = rest (sym (ap (λ b. b || has n ks) e) ∙ there)

  pub inserted_without : (l : List ℕ) → IsStrictlySortedBy (number_cmp keys) l → has n l ≡ true → inserted keys n (without n l) ≡ l
  unfolding IsStrictlySortedBy
  inserted_without [] sorted there = absurd (true≢false (sym there))
  inserted_without (m ∷ ms) sorted there = by (λ h. inserted_without ms sorted.1 h) (m == n) refl
    where
      by : (has n ms ≡ true → inserted keys n (without n ms) ≡ ms) → (b : Bool) → (m == n) ≡ b → inserted keys n (without n (m ∷ ms)) ≡ m ∷ ms
      by rest true e =
          ap (λ b. inserted keys n (if b then ms else m ∷ without n ms)) e
          ∙ all_above ms (subst (λ k. AllByRecursion (λ y. number_cmp keys k y ≡ Less) ms) (eqb-true m n e) sorted.0)
          ∙ ap (λ k. k ∷ ms) (sym (eqb-true m n e))
      by rest false e =
          let behind : has n ms ≡ true = sym (ap (λ b. b || has n ms) e) ∙ there in
          let greater : number_cmp keys n m ≡ Greater = less_back (number_cmp keys) (number_total keys) m n (below_it m ms sorted.0 behind) in
          ap (λ b. inserted keys n (if b then ms else m ∷ without n ms)) e
          ∙ ap (λ r. if is_lt r then n ∷ m ∷ without n ms else m ∷ inserted keys n (without n ms)) greater
          ∙ ap (λ l. m ∷ l) (rest behind)

pub has_other : (n m : ℕ) (l : List ℕ) → (m == n) ≡ false → has m (without n l) ≡ has m l
has_other n m [] e = refl
has_other n m (k ∷ ks) e = by (has_other n m ks e) (k == n) refl
  where
    by : has m (without n ks) ≡ has m ks → (b : Bool) → (k == n) ≡ b → has m (without n (k ∷ ks)) ≡ ((k == m) || has m ks)
    by rest true is =
        let differs : (k == m) ≡ false = ap (λ z. z == m) (eqb-true k n is) ∙ turn n m ∙ e in
        ap (λ b. has m (if b then ks else k ∷ without n ks)) is ∙ sym (ap (λ b. b || has m ks) differs)
    by rest false is = ap (λ b. has m (if b then ks else k ∷ without n ks)) is ∙ ap (λ b. (k == m) || b) rest

stays_in : (m : ℕ) (l : List ℕ) → has m (without m l) ≡ true → has m l ≡ true
stays_in m [] there = there
stays_in m (k ∷ ks) there = by (λ h. stays_in m ks h) (k == m) refl
  where
    by : (has m (without m ks) ≡ true → has m ks ≡ true) → (b : Bool) → (k == m) ≡ b → ((k == m) || has m ks) ≡ true
    by rest true is = ap (λ b. b || has m ks) is
    by rest false is =
        ap (λ b. b || has m ks) is ∙ rest (sym (ap (λ b. has m (if b then ks else k ∷ without m ks)) is ∙ ap (λ b. b || has m (without m ks)) is) ∙ there)

pub still_has : (n m : ℕ) (l : List ℕ) → has m (without n l) ≡ true → has m l ≡ true
still_has n m l there = by (m == n) refl
  where
    by : (b : Bool) → (m == n) ≡ b → has m l ≡ true
    by true e = stays_in m l (subst (λ z. has m (without z l) ≡ true) (sym (eqb-true m n e)) there)
    by false e = sym (has_other n m l e) ∙ there

-- ---- the steps

module _ (n : ℕ) (l : Listed) where
  withdrawn_is : has n l.live ≡ true → withdrawn n l ≡ record { live = without n l.live; held = n ∷ l.held }
  withdrawn_is there = ap (λ b. if b then record { live = without n l.live; held = n ∷ l.held } else l) there

  entered_is : (keys : List Key) → has n l.held ≡ true → has n l.live ≡ false → entered keys n l ≡ record { live = inserted keys n l.live; held = without n l.held }
  entered_is keys held out =
      ap (λ b. if b && not (has n l.live) then record { live = inserted keys n l.live; held = without n l.held } else l) held
      ∙ ap (λ b. if true && not b then record { live = inserted keys n l.live; held = without n l.held } else l) out

  pub live_withdrawn : (keys : List Key) → Ascends keys l.live → has n l.live ≡ true → (m : ℕ) → has m (withdrawn n l).live ≡ (if m == n then false else has m l.live)
  live_withdrawn keys ascends there m = ap (λ k. has m k.live) (withdrawn_is there) ∙ by (m == n) refl
    where
      by : (b : Bool) → (m == n) ≡ b → has m (without n l.live) ≡ (if m == n then false else has m l.live)
      by true e =
          ap (λ z. has z (without n l.live)) (eqb-true m n e) ∙ gone keys n l.live ascends.rising ∙ sym (ap (λ b. if b then false else has m l.live) e)
      by false e = has_other n m l.live e ∙ sym (ap (λ b. if b then false else has m l.live) e)

  pub held_withdrawn : has n l.live ≡ true → has n (withdrawn n l).held ≡ true
  held_withdrawn there = ap (λ k. has n k.held) (withdrawn_is there) ∙ ap (λ b. b || has n l.held) (itself n)

  pub live_entered : (keys : List Key) → has n l.held ≡ true → has n l.live ≡ false → (m : ℕ) → has m (entered keys n l).live ≡ (if m == n then true else has m l.live)
  live_entered keys held out m = ap (λ k. has m k.live) (entered_is keys held out) ∙ has_inserted keys n m l.live ∙ ap (λ b. b || has m l.live) (turn n m) ∙ by (m == n)
    where
      by : (b : Bool) → (b || has m l.live) ≡ (if b then true else has m l.live)
      by true = refl
      by false = refl

  -- taken and put back; put, taken and let go
  pub reentered : (keys : List Key) → Ascends keys l.live → has n l.live ≡ true → entered keys n (withdrawn n l) ≡ l
  reentered keys ascends there =
      ap (entered keys n) (withdrawn_is there)
      ∙ entered_back
    where
      entered_back : entered keys n (record { live = without n l.live; held = n ∷ l.held }) ≡ l
      entered_back =
          let held : has n (n ∷ l.held) ≡ true = ap (λ b. b || has n l.held) (itself n) in
          let gone_from : has n (without n l.live) ≡ false = gone keys n l.live ascends.rising in
          let live : inserted keys n (without n l.live) ≡ l.live = inserted_without keys n l.live ascends.rising there in
          let rest : without n (n ∷ l.held) ≡ l.held = ap (λ b. if b then l.held else n ∷ without n l.held) (itself n) in
          ap (λ b. if b && not (has n (without n l.live)) then record { live = inserted keys n (without n l.live); held = without n (n ∷ l.held) } else record { live = without n l.live; held = n ∷ l.held }) held
          ∙ ap (λ b. if true && not b then record { live = inserted keys n (without n l.live); held = without n (n ∷ l.held) } else record { live = without n l.live; held = n ∷ l.held }) gone_from
          ∙ (λ i. record { live = live i; held = rest i })

  pub reentered_held : (keys : List Key) → has n l.live ≡ false → entered keys n (with_held n l) ≡ record { live = inserted keys n l.live; held = l.held }
  reentered_held keys out =
      let held : has n (n ∷ l.held) ≡ true = ap (λ b. b || has n l.held) (itself n) in
      let rest : without n (n ∷ l.held) ≡ l.held = ap (λ b. if b then l.held else n ∷ without n l.held) (itself n) in
      ap (λ b. if b && not (has n l.live) then record { live = inserted keys n l.live; held = without n (n ∷ l.held) } else with_held n l) held
      ∙ ap (λ b. if true && not b then record { live = inserted keys n l.live; held = without n (n ∷ l.held) } else with_held n l) out
      ∙ (λ i. record { live = inserted keys n l.live; held = rest i })

  pub put_undone : (keys : List Key) → has n l.live ≡ false → released n (withdrawn n (entered keys n (with_held n l))) ≡ l
  put_undone keys out =
      let here : has n (inserted keys n l.live) ≡ true = has_inserted keys n n l.live ∙ ap (λ b. b || has n l.live) (itself n) in
      let live : without n (inserted keys n l.live) ≡ l.live = without_inserted keys n l.live out in
      let held : without n (n ∷ l.held) ≡ l.held = ap (λ b. if b then l.held else n ∷ without n l.held) (itself n) in
      ap (λ k. released n (withdrawn n k)) (reentered_held keys out)
      ∙ ap (λ b. released n (if b then record { live = without n (inserted keys n l.live); held = n ∷ l.held } else record { live = inserted keys n l.live; held = l.held })) here
      ∙ (λ i. record { live = live i; held = held i })

  -- no step gives a place to another number
  pub held_after_withdraw : (m : ℕ) → has m (withdrawn n l).held ≡ true → (m ≡ n) ⊎ (has m l.held ≡ true)
  held_after_withdraw m there = by (has n l.live) refl (n == m) refl
    where
      by : (b : Bool) → has n l.live ≡ b → (d : Bool) → (n == m) ≡ d → (m ≡ n) ⊎ (has m l.held ≡ true)
      by true e true same = inl (sym (eqb-true n m same))
      by true e false same = inr (sym (ap (λ b. b || has m l.held) same) ∙ sym (ap (λ k. has m k.held) (withdrawn_is e)) ∙ there)
      by false e d same = inr (sym (ap (λ b. has m (if b then record { live = without n l.live; held = n ∷ l.held } else l).held) e) ∙ there)

  pub held_after_hold : (m : ℕ) → has m (with_held n l).held ≡ true → (m ≡ n) ⊎ (has m l.held ≡ true)
  held_after_hold m there = by (n == m) refl
    where
      by : (d : Bool) → (n == m) ≡ d → (m ≡ n) ⊎ (has m l.held ≡ true)
      by true same = inl (sym (eqb-true n m same))
      by false same = inr (sym (ap (λ b. b || has m l.held) same) ∙ there)

  pub held_after_enter : (keys : List Key) (m : ℕ) → has m (entered keys n l).held ≡ true → (m ≡ n) ⊎ (has m l.held ≡ true)
  held_after_enter keys m there = inr (by (has n l.held && not (has n l.live)) there)
    where
      by : (b : Bool) → has m (if b then record { live = inserted keys n l.live; held = without n l.held } else l).held ≡ true → has m l.held ≡ true
      by true h = still_has n m l.held h
      by false h = h

  pub held_after_release : (m : ℕ) → has m (released n l).held ≡ true → (m ≡ n) ⊎ (has m l.held ≡ true)
  held_after_release m there = inr (still_has n m l.held there)
