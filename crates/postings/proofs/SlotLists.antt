-- What is found in a list of slots in rising order of their fields, and what an edit of the list does to it.
use Rattle.std.proofs.Common.{◌≡◌, ◌∙◌, ℕ, zero, suc, ◌+◌, ◌-◌, ◌<◌, ◌≤◌, eqb, ◌≢◌, Bool, true, false, List, [], ◌∷◌, length, get_or, set, if◌then◌else◌, Option, Some, None, Result, Ok, Err, IfOk, IfErr, is_ok, refl, sym, ap, subst, arith}
use Rattle.std.specs.List.{insert, remove}
use Rattle.std.specs.List.Sorted.{IsSearchInRange, IsBinarySearchResult, IsNonDecreasingBy}
use Rattle.std.specs.Ordering.{nat_cmp, ordering_index}
use Rattle.std.proofs.lemmas.Cmp.{ranked}
use Rattle.std.proofs.lemmas.List.{get_or_default}
use Rattle.std.proofs.lemmas.List.Sorted.{IsNonDecreasingBy-from_default}
use Rattle.std.proofs.lemmas.List.Edits.{length-insert, get_or-insert_below, get_or-insert_at, get_or-insert_above}
use Rattle.std.proofs.lemmas.Bool.{eqb-true}
use Rattle.std.proofs.lemmas.Bool.Decides.{nat_tests}
use Rattle.postings.specs.declared.slot.Slot.{Slot}
use Rattle.postings.specs.Slot.{slot_among, field_at, IsAt, IsGap, IsRising, IsChanged, IsSame, let_go}

abbrev no_slot : {R : Type 0} → Slot R
no_slot = record { field = 0; rooms = 0; row = None }

-- no slot before the place is the field's
abbrev NoneBefore : {R : Type 0} → List (Slot R) → ℕ → ℕ → Type 0
NoneBefore l field i = (j : ℕ) → j < i → field_at l j ≢ field

module _ {R : Type 0} where
  none_before_tail : (x : Slot R) (l : List (Slot R)) (f i : ℕ) → NoneBefore (x ∷ l) f (suc i) → NoneBefore l f i
  none_before_tail x l f i none j lt = none (suc j) (omega arith)

  is_at_tail : (x : Slot R) (l : List (Slot R)) (f i : ℕ) → IsAt (x ∷ l) f (suc i) → IsAt l f i
  is_at_tail x l f i is = record { in_range = omega (arith, is.in_range); is_its = is.is_its }

  absent : (l : List (Slot R)) (f : ℕ) → NoneBefore l f (length l) → slot_among l f ≡ None
  absent [] f none = refl
  absent (x ∷ l) f none = grind (arith, nat_tests, none 0 (omega arith), absent l f (none_before_tail x l f _ none))

  present : (l : List (Slot R)) (f i : ℕ) → IsAt l f i → NoneBefore l f i → slot_among l f ≡ Some (get_or l i no_slot)
  present [] f i is none = absurd (omega (arith, is.in_range))
  present (x ∷ l) f zero is none = grind (arith, nat_tests, is.is_its)
  present (x ∷ l) f (suc i) is none = grind (arith, nat_tests, none 0 (omega arith), present l f i (is_at_tail x l f i is) (none_before_tail x l f i none))

  among_set : (l : List (Slot R)) (f i : ℕ) (s : Slot R) → s.field ≡ f → IsAt l f i → NoneBefore l f i → (q : ℕ) → slot_among (set l i s) q ≡ (if eqb f q then Some s else slot_among l q)
  among_set [] f i s e is none q = absurd (omega (arith, is.in_range))
  among_set (x ∷ l) f zero s e is none q = grind (arith, nat_tests, is.is_its)
  among_set (x ∷ l) f (suc i) s e is none q = grind (arith, nat_tests, none 0 (omega arith), among_set l f i s e (is_at_tail x l f i is) (none_before_tail x l f i none) q)

  among_insert : (l : List (Slot R)) (f i : ℕ) (s : Slot R) → s.field ≡ f → NoneBefore l f i → (q : ℕ) → slot_among (insert l i s) q ≡ (if eqb f q then Some s else slot_among l q)
  among_insert l f zero s e none q = ap (λ n. if eqb n q then Some s else slot_among l q) e
  among_insert [] f (suc i) s e none q = ap (λ n. if eqb n q then Some s else None) e
  among_insert (x ∷ l) f (suc i) s e none q = grind (arith, nat_tests, none 0 (omega arith), among_insert l f i s e (none_before_tail x l f i none) q)

  -- the fields above the place differ too
  among_remove : (l : List (Slot R)) (f i : ℕ) → IsAt l f i → NoneBefore l f i → ((j : ℕ) → i < j → j < length l → field_at l j ≢ f)
      → (q : ℕ) → slot_among (remove l i) q ≡ (if eqb f q then None else slot_among l q)
  among_remove [] f i is none above q = absurd (omega (arith, is.in_range))
  among_remove (x ∷ l) f zero is none above q =
      grind (arith, nat_tests, is.is_its, absent l f (λ j lt. above (suc j) (omega arith) (omega arith)))
  among_remove (x ∷ l) f (suc i) is none above q =
      grind (arith, nat_tests, none 0 (omega arith), among_remove l f i (is_at_tail x l f i is) (none_before_tail x l f i none) (λ j low high. above (suc j) (omega arith) (omega arith)) q)

module _ {R : Type 0} (l : List (Slot R)) (rising : IsRising l) (f : ℕ) where
  comparisons_rise : IsNonDecreasingBy (λ (slot : Slot R). ordering_index (nat_cmp slot.field f)) l
  comparisons_rise = IsNonDecreasingBy-from_default (λ (slot : Slot R). ordering_index (nat_cmp slot.field f)) l no_slot (λ i j le in_range.
      let rise : field_at l i ≤ field_at l j = grind (arith, rising i j, λ (same : i ≡ j). ap (field_at l) same) in
      grind (arith, nat_tests))

  -- a binary search ends at the field's slot, or where it would go
  pub searched : (r : Result ℕ ℕ) → IsSearchInRange r (length l) → IsBinarySearchResult (λ (slot : Slot R). nat_cmp slot.field f) l r → record { found : IfOk r (IsAt l f); absent : IfErr r (IsGap l f) }
  searched (Ok at) in_range equal = record { found = record { in_range = in_range; is_its = ranked _ f _ (sym (equal no_slot)) }; absent = tt }
  searched (Err at) in_range parted = record {
    found = tt;
    absent = record {
      in_range = in_range;
      below = λ j lt. ranked _ f _ (sym ((parted comparisons_rise).0 j no_slot (omega arith) lt));
      above = λ j le lt. ranked _ f _ (sym ((parted comparisons_rise).1 j no_slot le lt));
    };
  }

module _ {R : Type 0} (change : Option (Slot R) → Option (Slot R)) where
  -- what a list says after one slot became this, or none
  changed_by : (old new : ℕ → Option (Slot R)) (f : ℕ) (now : Option (Slot R)) → change (old f) ≡ now → ((q : ℕ) → new q ≡ (if eqb f q then now else old q)) → IsChanged f change old new
  changed_by old new f now e each q = each q ∙ by (eqb f q) (λ h. ap (λ n. change (old n)) (eqb-true f q h))
    where
      by : (b : Bool) → (b ≡ true → change (old f) ≡ change (old q)) → (if b then now else old q) ≡ (if b then change (old q) else old q)
      by true same = sym e ∙ same refl
      by false same = refl

module _ {R : Type 0} (l : List (Slot R)) (rising : IsRising l) (f at : ℕ) (is : IsAt l f at) where
  none_before : NoneBefore l f at
  none_before j lt same = omega (arith, rising j at lt is.in_range, is.is_its)

-- what is read at the place is one slot
pub one_there : {R : Type 0} (l : List (Slot R)) (f at : ℕ) → IsAt l f at → (x y : Slot R) → x ≡ get_or l at x → y ≡ get_or l at y → x ≡ y
one_there l f at is x y there here = there ∙ get_or_default l at x y is.in_range ∙ sym here

-- the slot at the place is x
module _ {R : Type 0} (l : List (Slot R)) (rising : IsRising l) (f at : ℕ) (is : IsAt l f at) (x : Slot R) (there : x ≡ get_or l at x) where
  its : get_or l at no_slot ≡ x
  its = get_or_default l at no_slot x is.in_range ∙ sym there

  pub its_field : x.field ≡ f
  its_field = sym (ap (λ (s : Slot R). s.field) its) ∙ is.is_its

  pub found : slot_among l f ≡ Some x
  found = present l f at is (none_before l rising f at is) ∙ ap Some its

  -- it is changed where it stands
  pub changed_set : (change : Option (Slot R) → Option (Slot R)) (s : Slot R) → s.field ≡ x.field → change (Some x) ≡ Some s → IsChanged f change (slot_among l) (slot_among (set l at s))
  changed_set change s e now =
      changed_by change (slot_among l) (slot_among (set l at s)) f (Some s) (ap change found ∙ now) (among_set l f at s (e ∙ its_field) is (none_before l rising f at is))

  pub same_set : (s : Slot R) → s ≡ x → IsSame (slot_among l) (slot_among (set l at s))
  same_set s e q = changed_set (λ o. o) s (ap (λ (t : Slot R). t.field) e) (ap Some (sym e)) q ∙ by (eqb f q)
    where
      by : (b : Bool) {o : Option (Slot R)} → (if b then o else o) ≡ o
      by true = refl
      by false = refl

  -- or goes
  pub changed_remove : (change : Option (Slot R) → Option (Slot R)) → change (Some x) ≡ None → IsChanged f change (slot_among l) (slot_among (remove l at))
  changed_remove change now = changed_by change (slot_among l) (slot_among (remove l at)) f None (ap change found ∙ now)
      (among_remove l f at is (none_before l rising f at is) (λ j lt in_range same. omega (arith, rising at j lt in_range, is.is_its)))

module _ {R : Type 0} (l : List (Slot R)) (f at : ℕ) (gap : IsGap l f at) where
  pub not_found : slot_among l f ≡ None
  not_found = absent l f (λ j lt same. grind (arith, gap.below j, gap.above j))

  -- a field without a slot stays without
  pub unchanged : (change : Option (Slot R) → Option (Slot R)) → change None ≡ None → IsChanged f change (slot_among l) (slot_among l)
  unchanged change none = changed_by change (slot_among l) (slot_among l) f None (ap change not_found ∙ none) (λ q. by (eqb f q) (λ h. ap (slot_among l) (sym (eqb-true f q h)) ∙ not_found))
    where
      by : (b : Bool) {o : Option (Slot R)} → (b ≡ true → o ≡ None) → o ≡ (if b then None else o)
      by true e = e refl
      by false e = refl

  -- or gets one
  pub changed_insert : (change : Option (Slot R) → Option (Slot R)) (s : Slot R) → s.field ≡ f → change None ≡ Some s → IsChanged f change (slot_among l) (slot_among (insert l at s))
  changed_insert change s e now =
      changed_by change (slot_among l) (slot_among (insert l at s)) f (Some s) (ap change not_found ∙ now)
      (among_insert l f at s e (λ j lt same. omega (arith, gap.below j lt)))

  pub rising_insert : (s : Slot R) → s.field ≡ f → IsRising l → IsRising (insert l at s)
  rising_insert s e rising i j lt in_range =
      let new = insert l at s in
      let field = λ (x : Slot R). x.field in
      let length_new = length-insert l at s gap.in_range in
      let below : (i : ℕ) → i < at → field_at new i ≡ field_at l i = λ i low. ap field (get_or-insert_below l at s no_slot i low gap.in_range) in
      let here : (i : ℕ) → i ≡ at → field_at new i ≡ f = λ i is. rw is (ap field (get_or-insert_at l at s no_slot gap.in_range) ∙ e) in
      let above : (i : ℕ) → at < i → field_at new i ≡ field_at l (i - 1) = λ i high. subst (λ q. field_at new q ≡ field_at l (i - 1)) {x = i - 1 + 1} (omega arith) (ap field (get_or-insert_above l at s no_slot (i - 1) (omega arith) gap.in_range)) in
      grind (arith, below i, here i, above i, below j, here j, above j, rising i j, rising i (j - 1), rising (i - 1) (j - 1), gap.below i, gap.above (j - 1))

  -- also where memory was wanting, and so nothing was inserted
  pub rising_after : {A E : Type 0} (result : Result A E) {new : List (Slot R)} (s : Slot R) → s.field ≡ f → IsRising l → new ≡ (if is_ok result then insert l at s else l) → IsRising new
  rising_after (Ok value) s e rising is = subst IsRising (sym is) (rising_insert s e rising)
  rising_after (Err error) s e rising is = subst IsRising (sym is) rising

-- what is left of a slot that had room for more rows, or for one
module _ {R : Type 0} (x : Slot R) where
  pub let_go_more : 1 < x.rooms → let_go (Some x) ≡ Some (record { field = x.field; rooms = x.rooms - 1; row = x.row })
  let_go_more more = grind (arith, nat_tests)

  pub let_go_last : x.rooms ≤ 1 → let_go (Some x) ≡ None
  let_go_last last = grind (arith, nat_tests)
