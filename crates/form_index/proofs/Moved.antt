-- Numbers that move between the two parts of a list.
use Rattle.std.proofs.Common.{◌≡◌, ◌⊎◌, inl, inr, ◌∙◌, sym, ap, subst, refl, ℕ, suc, ◌+◌, ◌-◌, ◌<◌, ◌≤◌, arith, List, [], ◌∷◌, ◌++◌, length, take, drop, get_or, slice_get, Some, None, insert, remove, eq-eqb}
use Rattle.std.specs.Prelude.{Bool, true, false, not, ◌||◌, ◌&&◌, ◌==◌, cond, if◌then◌else◌, nat_lt}
use Rattle.std.specs.List.{position, position_or_len}
use Rattle.std.proofs.lemmas.Bool.{true≢false, cases_lt, eqb-true, le-ltb, lt-ltb}
use Rattle.std.proofs.lemmas.List.{take-append-drop, take_at, drop_at, length-take-le, get_or-drop, get_or-take}
use Rattle.std.proofs.lemmas.List.Edits.{insert-append_left, insert-append_right, length-insert, length-remove, remove-append_left, remove-append_right}
use Rattle.std.specs.List.Sorted.{IsPartitionPoint, IsStrictlySortedBy}
use Rattle.std.specs.declared.cmp.Ordering.TheVariants.{Less, Greater}
use Rattle.std.proofs.lemmas.Map.Keys.{any_passes_from_place}
use Rattle.std.proofs.lemmas.List.Quantifiers.{position-Some}
use Rattle.std.proofs.lemmas.Option.{get_or_from_slice_get}
use Rattle.marc_types.specs.declared.key.Key.{Key}
use Rattle.form_index.specs.Order.{Ascends, has, number_cmp, inserted, without}
use Rattle.form_index.specs.Listed.{Listed, released, entered, withdrawn}
use Rattle.form_index.proofs.Ordered.{ascends_insert, ascends_remove, has_not, number_total, place_from, inserted_is, without_is}

module _ (items : List ℕ) (live : ℕ) (within : live ≤ length items) where
  front : List ℕ
  front = take live items

  back : List ℕ
  back = drop live items

  long : length front ≡ live
  unfolding front
  long = length-take-le live items within

  whole : items ≡ front ++ back
  unfolding front back
  whole = sym (take-append-drop live items)

  removed_back : (from : ℕ) → remove items (live + from) ≡ front ++ remove back from
  removed_back from =
      let same : live + from - live ≡ from = omega arith in
      ap (λ l. remove l (live + from)) whole ∙ remove-append_right front back live (live + from) long (omega arith) ∙ ap (λ k. front ++ remove back k) same

  removed_front : (from : ℕ) → from < live → remove items from ≡ remove front from ++ back
  removed_front from low = ap (λ l. remove l from) whole ∙ remove-append_left front back from (omega (arith, long))

  -- a number goes from the second part into the first
  module _ (from to x : ℕ) (place : to ≤ live) where
    into : insert (remove items (live + from)) to x ≡ insert front to x ++ remove back from
    into = ap (λ l. insert l to x) (removed_back from) ∙ insert-append_left front (remove back from) to x (omega (arith, long))

    one_more : length (insert front to x) ≡ live + 1
    one_more = omega (arith, length-insert front to x (omega (arith, long)), long)

    pub front_into : take (live + 1) (insert (remove items (live + from)) to x) ≡ insert (take live items) to x
    unfolding front
    front_into = ap (take (live + 1)) into ∙ take_at (insert front to x) (remove back from) (live + 1) one_more

    pub back_into : drop (live + 1) (insert (remove items (live + from)) to x) ≡ remove (drop live items) from
    unfolding back
    back_into = ap (drop (live + 1)) into ∙ drop_at (insert front to x) (remove back from) (live + 1) one_more

  -- a number goes from the first part to the head of the second
  module _ (from x : ℕ) (place : from < live) where
    one_less : length (remove front from) ≡ live - 1
    one_less = omega (arith, length-remove front from (omega (arith, long)), long)

    out : insert (remove items from) (live - 1) x ≡ remove front from ++ x ∷ back
    out =
        let none : live - 1 - (live - 1) ≡ 0 = omega arith in
        ap (λ l. insert l (live - 1) x) (removed_front from place)
        ∙ insert-append_right (remove front from) back (live - 1) (live - 1) x one_less (omega arith)
        ∙ ap (λ k. remove front from ++ insert back k x) none

    pub front_out : take (live - 1) (insert (remove items from) (live - 1) x) ≡ remove (take live items) from
    unfolding front
    front_out = ap (take (live - 1)) out ∙ take_at (remove front from) (x ∷ back) (live - 1) one_less

    pub back_out : drop (live - 1) (insert (remove items from) (live - 1) x) ≡ x ∷ drop live items
    unfolding back
    back_out = ap (drop (live - 1)) out ∙ drop_at (remove front from) (x ∷ back) (live - 1) one_less

  -- a number of the second part goes
  pub front_gone : (from : ℕ) → take live (remove items (live + from)) ≡ take live items
  unfolding front
  front_gone from = ap (take live) (removed_back from) ∙ take_at front (remove back from) live long

  pub back_gone : (from : ℕ) → drop live (remove items (live + from)) ≡ remove (drop live items) from
  unfolding back
  back_gone from = ap (drop live) (removed_back from) ∙ drop_at front (remove back from) live long

-- ---- the first place of a number

one_suc : (a : ℕ) → 1 + a ≡ suc a
one_suc a = omega arith

lt_suc : (a b : ℕ) → nat_lt (suc a) (suc b) ≡ nat_lt a b
lt_suc a b = by (cases_lt a b)
  where
    by : (a < b) ⊎ (b ≤ a) → nat_lt (suc a) (suc b) ≡ nat_lt a b
    by (inl low) = lt-ltb (suc a) (suc b) (omega arith) ∙ sym (lt-ltb a b low)
    by (inr high) = le-ltb (suc a) (suc b) (omega arith) ∙ sym (le-ltb a b high)

first : (n m : ℕ) (ms : List ℕ) (b : Bool) → (m == n) ≡ b → position_or_len (λ k. k == n) (m ∷ ms) ≡ cond (not b) (suc (position_or_len (λ k. k == n) ms)) 0
first n m ms b e = ap (λ b. cond (not b) (1 + position_or_len (λ k. k == n) ms) 0) e ∙ ap (λ k. cond (not b) k 0) (one_suc (position_or_len (λ k. k == n) ms))

removes_at : (n : ℕ) (l : List ℕ) → without n l ≡ remove l (position_or_len (λ k. k == n) l)
removes_at n [] = refl
removes_at n (m ∷ ms) = by (m == n) refl (removes_at n ms)
  where
    by : (b : Bool) → (m == n) ≡ b → without n ms ≡ remove ms (position_or_len (λ k. k == n) ms) → without n (m ∷ ms) ≡ remove (m ∷ ms) (position_or_len (λ k. k == n) (m ∷ ms))
    by true e rest = ap (λ b. if b then ms else m ∷ without n ms) e ∙ ap (remove (m ∷ ms)) (sym (first n m ms true e))
    by false e rest = ap (λ b. if b then ms else m ∷ without n ms) e ∙ ap (λ l. m ∷ l) rest ∙ ap (remove (m ∷ ms)) (sym (first n m ms false e))

stands : (n : ℕ) (l : List ℕ) → has n l ≡ nat_lt (position_or_len (λ k. k == n) l) (length l)
stands n [] = refl
stands n (m ∷ ms) = by (m == n) refl (stands n ms)
  where
    by : (b : Bool) → (m == n) ≡ b → has n ms ≡ nat_lt (position_or_len (λ k. k == n) ms) (length ms) → has n (m ∷ ms) ≡ nat_lt (position_or_len (λ k. k == n) (m ∷ ms)) (length (m ∷ ms))
    by true e rest = ap (λ b. b || has n ms) e ∙ sym (lt-ltb 0 (length (m ∷ ms)) (omega arith)) ∙ ap (λ k. nat_lt k (length (m ∷ ms))) (sym (first n m ms true e))
    by false e rest =
        ap (λ b. b || has n ms) e ∙ rest ∙ sym (lt_suc (position_or_len (λ k. k == n) ms) (length ms))
        ∙ ap (λ k. nat_lt k (length (m ∷ ms))) (sym (first n m ms false e))

found_by : (b : Bool) (i k : ℕ) → cond b (Some i) None ≡ Some k → (b ≡ true) × (i ≡ k)
found_by true i k e = (refl, cc)
found_by false i k e = cc

none_by : (b : Bool) (i : ℕ) → cond b (Some i) None ≡ None → b ≡ false
none_by true i e = cc
none_by false i e = refl

module _ (n : ℕ) (l : List ℕ) where
  pub found_has : (k : ℕ) → position (λ m. m == n) l ≡ Some k → has n l ≡ true
  found_has k e = stands n l ∙ (found_by _ _ k e).0

  pub found_without : (k : ℕ) → position (λ m. m == n) l ≡ Some k → without n l ≡ remove l k
  found_without k e = removes_at n l ∙ ap (remove l) (found_by _ _ k e).1

  pub absent_has : position (λ m. m == n) l ≡ None → has n l ≡ false
  absent_has e = stands n l ∙ none_by _ _ e

pub absent_without : (n : ℕ) (l : List ℕ) → has n l ≡ false → without n l ≡ l
absent_without n [] e = refl
absent_without n (m ∷ ms) e = by (λ h. absent_without n ms h) (m == n) refl
  where
    by : (has n ms ≡ false → without n ms ≡ ms) → (b : Bool) → (m == n) ≡ b → without n (m ∷ ms) ≡ m ∷ ms
    by rest true is = absurd (true≢false (sym (ap (λ b. b || has n ms) is) ∙ e))
    by rest false is = ap (λ b. if b then ms else m ∷ without n ms) is ∙ ap (λ l. m ∷ l) (rest (sym (ap (λ b. b || has n ms) is) ∙ e))

-- ---- what each step leaves, where the list is told by its numbers and how many of them are live

abbrev pub shown : List ℕ → ℕ → Listed
shown items live = record { live = take live items; held = drop live items }

module _ (items : List ℕ) (live : ℕ) (within : live ≤ length items) (n : ℕ) where
  pub released_none : position (λ m. m == n) (drop live items) ≡ None → shown items live ≡ released n (shown items live)
  released_none e = λ i. record { live = take live items; held = sym (absent_without n (drop live items) (absent_has n (drop live items) e)) i }

  pub released_some : (place : ℕ) (new : List ℕ) → position (λ m. m == n) (drop live items) ≡ Some place → new ≡ remove items (live + place) → shown new live ≡ released n (shown items live)
  released_some place new e is =
      let front : take live new ≡ take live items = ap (take live) is ∙ front_gone items live within place in
      let back : drop live new ≡ without n (drop live items) = ap (drop live) is ∙ back_gone items live within place ∙ sym (found_without n (drop live items) place e) in
      λ i. record { live = front i; held = back i }

  pub entered_none : (keys : List Key) → position (λ m. m == n) (drop live items) ≡ None → shown items live ≡ entered keys n (shown items live)
  entered_none keys e = sym (ap (λ b. if b && not (has n (take live items)) then record { live = inserted keys n (take live items); held = without n (drop live items) } else shown items live) (absent_has n (drop live items) e))

  pub entered_there : (keys : List Key) (at : ℕ) → slice_get (take live items) at ≡ Some n → shown items live ≡ entered keys n (shown items live)
  entered_there keys at e =
      let here : has n (take live items) ≡ true = any_passes_from_place (λ m. m == n) (take live items) at n e (eq-eqb n n refl) in
      sym (by (has n (drop live items)) (has n (take live items)) here)
    where
      by : (b c : Bool) → c ≡ true → (if b && not c then record { live = inserted keys n (take live items); held = without n (drop live items) } else shown items live) ≡ shown items live
      by true true e = refl
      by false true e = refl
      by b false e = absurd (true≢false (sym e))

  pub entered_moved : (keys : List Key) (from to : ℕ) (new : List ℕ) → position (λ m. m == n) (drop live items) ≡ Some from → to ≤ live
      → IsPartitionPoint (λ m. number_cmp keys m n ≡ Less) (λ m. number_cmp keys m n ≡ Greater) (take live items) to
      → new ≡ insert (remove items (live + from)) to n → shown new (live + 1) ≡ entered keys n (shown items live)
  entered_moved keys from to new e place part is =
      let point = place_from keys n (take live items) to part in
      let held : has n (drop live items) ≡ true = found_has n (drop live items) from e in
      let out : has n (take live items) ≡ false = has_not (number_cmp keys) (number_total keys) n (take live items) to point in
      let front : take (live + 1) new ≡ inserted keys n (take live items) = ap (take (live + 1)) is ∙ front_into items live within from to n place ∙ sym (inserted_is keys n (take live items) to point) in
      let back : drop (live + 1) new ≡ without n (drop live items) = ap (drop (live + 1)) is ∙ back_into items live within from to n place ∙ sym (found_without n (drop live items) from e) in
      let new_is : shown new (live + 1) ≡ record { live = inserted keys n (take live items); held = without n (drop live items) } = λ i. record { live = front i; held = back i } in
      new_is ∙ sym (ap (λ b. if b && not (has n (take live items)) then record { live = inserted keys n (take live items); held = without n (drop live items) } else shown items live) held
      ∙ ap (λ c. if true && not c then record { live = inserted keys n (take live items); held = without n (drop live items) } else shown items live) out)

  pub withdrawn_none : (keys : List Key) (to : ℕ) → IsPartitionPoint (λ m. number_cmp keys m n ≡ Less) (λ m. number_cmp keys m n ≡ Greater) (take live items) to
      → shown items live ≡ withdrawn n (shown items live)
  withdrawn_none keys to part =
      let out : has n (take live items) ≡ false = has_not (number_cmp keys) (number_total keys) n (take live items) to (place_from keys n (take live items) to part) in
      sym (ap (λ b. if b then record { live = without n (take live items); held = n ∷ drop live items } else shown items live) out)

  pub withdrawn_moved : (keys : List Key) (from : ℕ) (new : List ℕ) → IsStrictlySortedBy (number_cmp keys) (take live items) → from < live → slice_get (take live items) from ≡ Some n
      → new ≡ insert (remove items from) (live - 1) n → shown new (live - 1) ≡ withdrawn n (shown items live)
  withdrawn_moved keys from new sorted low e is =
      let here : has n (take live items) ≡ true = any_passes_from_place (λ m. m == n) (take live items) from n e (eq-eqb n n refl) in
      let front : take (live - 1) new ≡ without n (take live items) = ap (take (live - 1)) is ∙ front_out items live within from n low ∙ sym (without_is keys n (take live items) from sorted e) in
      let back : drop (live - 1) new ≡ n ∷ drop live items = ap (drop (live - 1)) is ∙ back_out items live within from n low in
      let new_is : shown new (live - 1) ≡ record { live = without n (take live items); held = n ∷ drop live items } = λ i. record { live = front i; held = back i } in
      new_is ∙ sym (ap (λ b. if b then record { live = without n (take live items); held = n ∷ drop live items } else shown items live) here)

  -- which number moves
  pub moves_held : (from : ℕ) → position (λ m. m == n) (drop live items) ≡ Some from → get_or items (live + from) 0 ≡ n
  moves_held from e = sym (get_or-drop live items from 0) ∙ eqb-true (get_or (drop live items) from 0) n (position-Some (λ m. m == n) (drop live items) from 0 e).1

  pub moves_live : (from : ℕ) → from < live → slice_get (take live items) from ≡ Some n → get_or items from 0 ≡ n
  moves_live from low e = sym (get_or-take live items from 0 low) ∙ get_or_from_slice_get (take live items) from n 0 e

  -- the numbers that are live ascend afterwards
  pub ascends_into : (keys : List Key) (from to : ℕ) (new : List ℕ) → n < length keys → to ≤ live
      → IsPartitionPoint (λ m. number_cmp keys m n ≡ Less) (λ m. number_cmp keys m n ≡ Greater) (take live items) to
      → new ≡ insert (remove items (live + from)) to n → Ascends keys (take live items) → Ascends keys (take (live + 1) new)
  ascends_into keys from to new known place part is ascends =
      subst (Ascends keys) (sym (ap (take (live + 1)) is ∙ front_into items live within from to n place)) (ascends_insert keys n (take live items) to known part ascends)

  pub ascends_out : (keys : List Key) (from : ℕ) (new : List ℕ) → from < live → new ≡ insert (remove items from) (live - 1) n → Ascends keys (take live items) → Ascends keys (take (live - 1) new)
  ascends_out keys from new low is ascends =
      subst (Ascends keys) (sym (ap (take (live - 1)) is ∙ front_out items live within from n low)) (ascends_remove keys (take live items) from ascends)

-- ---- a number that moves, as it was found

module _ (items : List ℕ) (live : ℕ) (within : live ≤ length items) (n : ℕ) (keys : List Key) (l : Listed) (view : shown items live ≡ l) (now : List ℕ) (now_is : now ≡ l.live) where
  live_now : now ≡ take live items
  live_now = now_is ∙ ap (λ (x : Listed). x.live) (sym view)

  ascends_now : Ascends keys l.live → Ascends keys (take live items)
  ascends_now ascends = subst (λ (x : Listed). Ascends keys x.live) (sym view) ascends

  -- from a place that is held for it to its place in key order
  module _ (held : List ℕ) (held_is : held ≡ l.held) (from to : ℕ) (new : List ℕ) (found : position (λ m. m == n) held ≡ Some from) (bound : to ≤ length now)
      (part : IsPartitionPoint (λ m. number_cmp keys m n ≡ Less) (λ m. number_cmp keys m n ≡ Greater) now to) (is : new ≡ insert (remove items (live + from)) to (get_or items (live + from) 0)) where
    held_there : position (λ m. m == n) (drop live items) ≡ Some from
    held_there = ap (λ (x : Listed). position (λ m. m == n) x.held) view ∙ ap (position (λ m. m == n)) (sym held_is) ∙ found

    part_there : IsPartitionPoint (λ m. number_cmp keys m n ≡ Less) (λ m. number_cmp keys m n ≡ Greater) (take live items) to
    part_there = subst (λ xs. IsPartitionPoint (λ m. number_cmp keys m n ≡ Less) (λ m. number_cmp keys m n ≡ Greater) xs to) live_now part

    place : to ≤ live
    place =
        let low : to ≤ length (take live items) = subst (λ (xs : List ℕ). to ≤ length xs) live_now bound in
        omega (arith, length-take-le live items within, low)

    moved : new ≡ insert (remove items (live + from)) to n
    moved = is ∙ ap (insert (remove items (live + from)) to) (moves_held items live within n from held_there)

    pub goes_in : shown new (live + 1) ≡ entered keys n l
    goes_in = entered_moved items live within n keys from to new held_there place part_there moved ∙ ap (entered keys n) view

    pub goes_in_ascends : n < length keys → Ascends keys l.live → Ascends keys (take (live + 1) new)
    goes_in_ascends known ascends = ascends_into items live within n keys from to new known place part_there moved (ascends_now ascends)

  -- out of the order
  module _ (from : ℕ) (new : List ℕ) (bound : from < length now) (found : slice_get now from ≡ Some n) (is : new ≡ insert (remove items from) (live - 1) (get_or items from 0))
      (ascends : Ascends keys l.live) where
    low : from < live
    low =
        let there : from < length (take live items) = subst (λ (xs : List ℕ). from < length xs) live_now bound in
        omega (arith, length-take-le live items within, there)

    found_there : slice_get (take live items) from ≡ Some n
    found_there = ap (λ (xs : List ℕ). slice_get xs from) (sym live_now) ∙ found

    taken : new ≡ insert (remove items from) (live - 1) n
    taken = is ∙ ap (insert (remove items from) (live - 1)) (moves_live items live within n from low found_there)

    pub goes_out : shown new (live - 1) ≡ withdrawn n l
    goes_out = let order = ascends_now ascends in withdrawn_moved items live within n keys from new order.rising low found_there taken ∙ ap (withdrawn n) view

    pub goes_out_ascends : Ascends keys (take (live - 1) new)
    goes_out_ascends = ascends_out items live within n keys from new low taken (ascends_now ascends)
