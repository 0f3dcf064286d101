-- The opening keeps the rule, and ends with the lock open.
use Rattle.std.proofs.Common.{◌≡◌, ◌≢◌, ℕ, zero, suc, ◌+◌, ◌%◌, ◌^◌, ◌<◌, ◌≤◌, ◌==◌, true, List, [], ◌∷◌, ◌++◌, length, set, Option, Some, None, refl, ap, sym, subst, ◌∙◌, arith, ⊎_elim, inl, inr, length-append}
use Rattle.std.proofs.lemmas.Bool.Decides.{nat_tests}
use mathlib.Core.List.{IsPrefix}
use mathlib.Core.Option.{Option as Home, none, some, some-injective, some-ne-none}
use lib.ListN.{get_elem?}
use Rattle.atomic_table.specs.Table.{keeps, takes, gives, Allows, opening, put_back, rest, carried_after}
use Rattle.catalogue_lock.specs.declared.view.Numbered.{Numbered}
use Rattle.catalogue_lock.specs.declared.view.Claim.{Claim}
use Rattle.catalogue_lock.specs.declared.view.Stage.{Stage}
use Rattle.catalogue_lock.specs.declared.view.Stage.TheVariants.{Waits, InTurn}
use Rattle.catalogue_lock.specs.declared.view.View.{View}
use Rattle.catalogue_lock.specs.declared.view.Terms.{Terms}
use Rattle.catalogue_lock.specs.History.{items, items_by, numbered}
use Rattle.catalogue_lock.specs.Views.{opener, open_view, brought_in, opened_up, unused_from}
use Rattle.catalogue_lock.specs.Rule.{Each, one_if, within, claimed, Opening, OpeningSlot, Running, Fits, Stands, Kept}
use Rattle.catalogue_lock.specs.Steps.{Mine, BeginsOpening, BringsIn, EndsOpening, IsOpening, HasBroughtIn}
use Rattle.catalogue_lock.proofs.Prefixes.{prefix_self}
use Rattle.catalogue_lock.proofs.Numbers.{items_by-own, items_by-other, items-numbered, length-numbered}
use Rattle.catalogue_lock.proofs.Words.{on_serving, on_count}
use Rattle.catalogue_lock.proofs.Turning.{no_step}

-- no number lies between one number and itself
empty_within : (x : ℕ) → 0 ≡ within 1 1 x
empty_within x = grind (arith, nat_tests)

one_claimed : (first k rest : ℕ) → (first ≡ k → rest ≡ 0) → (first ≢ k → rest ≡ 1) → one_if (first == k) + rest ≡ 1
one_claimed first k rest here there = grind (arith, nat_tests)

none_claimed : (first k rest : ℕ) → k < first → rest ≡ 0 → one_if (first == k) + rest ≡ 0
none_claimed first k rest below e = grind (arith, nat_tests)

module _ (I : Type 0) where
  length-unused : (first n : ℕ) → length (unused_from {I = I} first n) ≡ n
  length-unused first zero = refl
  length-unused first (suc n) = omega (arith, length-unused (suc first) n)

  claimed_before : (first n k : ℕ) → k < first → claimed k (unused_from {I = I} first n) ≡ 0
  claimed_before first zero k below = refl
  claimed_before first (suc n) k below = none_claimed first k (claimed k (unused_from {I = I} (suc first) n)) below (claimed_before (suc first) n k (omega arith))

  -- each number is claimed once
  claimed_once : (first n k : ℕ) → first ≤ k → k < first + n → claimed k (unused_from {I = I} first n) ≡ 1
  claimed_once first zero k from below = absurd (omega arith)
  claimed_once first (suc n) k from below = one_claimed first k (claimed k (unused_from {I = I} (suc first) n))
      (λ e. claimed_before (suc first) n k (omega arith)) (λ ne. claimed_once (suc first) n k (omega arith) (omega arith))

  unused_each : (P : Claim I → Type 0) (first n : ℕ) → ((k : ℕ) → k < first + n → P (record { number = k; items = [] })) → Each P (unused_from first n)
  unused_each P first zero f = tt
  unused_each P first (suc n) f = (f first (omega arith), unused_each P (suc first) n (λ k lt. f k (omega arith)))

module _ {O I Origin : Type 0} (history : O → List I) (origin : O → Origin) (key : Terms O) where
  abbrev pub Opens : ℕ → ℕ → ℕ → List (Home (Option O)) → List (View O I) → View O I → Type 0
  Opens = Opening history origin key

  only_view : (view v : View O I) (id : ℕ) → get_elem? (view ∷ []) id ≡ some v → (id ≡ 0) × (view ≡ v)
  only_view view v zero at = (refl, some-injective view v at)
  only_view view v (suc id) at = absurd (some-ne-none v (sym at))

  -- the seat that opens the lock finds it so
  is_opening : (ticket serving count : ℕ) (homes : List (Home (Option O))) (views : List (View O I)) (id : ℕ) (v : View O I) → Stands history origin key ticket serving count homes views
      → get_elem? views id ≡ some v → v.opening ≡ true → (id ≡ 0) × Opens ticket serving count homes views v
  is_opening ticket serving count homes views id v stands at mark = ⊎_elim
      (λ (o : (view : View O I) × Opens ticket serving count homes views view).
      let only = only_view o.0 v id (subst (λ (vs : List (View O I)). get_elem? vs id ≡ some v) o.1.alone at) in
      (only.0, subst (Opens ticket serving count homes views) only.1 o.1))
      (λ (r : Running history origin key ticket serving count homes views). absurd (cc (r.fits id v at).running)) stands

  alone_again : (views : List (View O I)) (id : ℕ) (v w : View O I) → id ≡ 0 → views ≡ v ∷ [] → set views id w ≡ w ∷ []
  alone_again views id v w here is = λ i. set (is i) (here i) w

  -- a step of the seat that opens the lock, at its stage and what it has seen, at the count and at the slot
  moved : (ticket serving count next : ℕ) (homes left : List (Home (Option O))) (views : List (View O I)) (id : ℕ) (v : View O I) (stage : Stage) (seen : List (Numbered I)) → id ≡ 0
      → Opens ticket serving count homes views v → length seen ≡ next → OpeningSlot history origin key stage seen left
      → let w : View O I = record v { stage = stage; seen = seen } in Opens ticket serving next left (set views id w) w
  moved ticket serving count next homes left views id v stage seen here o counted slot = record {
    few = o.few;
    alone = alone_again views id v _ here o.alone;
    mark = o.mark;
    opened = o.opened;
    draws = o.draws;
    claims = o.claims;
    olds = o.olds;
    first_ticket = o.first_ticket;
    none_served = o.none_served;
    counted = counted;
    slot = slot;
  }

  -- the table as it is made
  pub starts : key.callers < 4294967296 → Kept history origin key (opening (1 ∷ 0 ∷ 0 ∷ []) (None ∷ []) (opener key))
  starts few = record {
    ticket = 1;
    serving = 0;
    count = 0;
    words = refl;
    stands = inl (
      opener key,
      record {
        few = few;
        alone = refl;
        mark = refl;
        opened = refl;
        draws = refl;
        claims = refl;
        olds = refl;
        first_ticket = refl;
        none_served = refl;
        counted = refl;
        slot = (refl, refl, refl);
      },
    );
  }

  -- the first view comes in turn, and holds the empty slot
  pub begins : (slots id : ℕ) (me : Mine O I) → me ≡ (opener key, []) → Allows (Kept history origin key) slots id me 1 (λ n. n) (BeginsOpening (no_step O) me)
  begins slots id me is = on_serving history origin key slots id me (λ n. n) (BeginsOpening (no_step O) me) (λ ticket serving count homes views stands long at small.
      let h = is_opening ticket serving count homes views id me.0 stands at (ap (λ (m : Mine O I). m.0.opening) is) in
      let o = h.1 in
      let stage : me.0.stage ≡ Waits 0 = ap (λ (m : Mine O I). m.0.stage) is in
      let slot : OpeningSlot history origin key (Waits 0) me.0.seen homes = subst (λ (st : Stage). OpeningSlot history origin key st me.0.seen homes) stage o.slot in
      let w : View O I = record me.0 { stage = InTurn 0 } in (
        w,
        takes 0 None,
        ap (λ (hs : List (Home (Option O))). get_elem? hs 0) slot.2,
        inl (w, moved ticket serving count count homes _ views id me.0 (InTurn 0) me.0.seen h.0 o o.counted (refl, ap (λ (hs : List (Home (Option O))). set hs 0 none) slot.2)),
        (refl, ap (λ (m : Mine O I). (0, None) ∷ m.1) is),
      ))

  -- the items that the object brought are counted
  pub brings : (slots id : ℕ) (me : Mine O I) (added : List I) (by : ℕ) → IsOpening key me → by ≡ length added → by < 18446744073709551616
      → Allows (Kept history origin key) slots id me 2 (λ n. (n + by) % 2 ^ 64) (BringsIn added (no_step O) me)
  brings slots id me added by is all fits = on_count history origin key slots id me (λ n. (n + by) % 2 ^ 64) (BringsIn added (no_step O) me) (λ ticket serving count homes views stands long at small.
      let h = is_opening ticket serving count homes views id me.0 stands at is.mark in
      let o = h.1 in
      let more = numbered None added in
      let w : View O I = brought_in me.0 added in
      let before : length me.0.seen ≡ 0 = ap length is.seen in
      let was = o.counted in
      let slot : OpeningSlot history origin key (InTurn 0) me.0.seen homes = subst (λ (st : Stage). OpeningSlot history origin key st me.0.seen homes) is.stage o.slot in
      let count_is : length (me.0.seen ++ more) ≡ (count + by) % 2 ^ 64 = omega (arith, length-append me.0.seen more, length-numbered None added) in (
        w,
        keeps,
        tt,
        inl (
          w,
          moved ticket serving count _ homes homes views id me.0 me.0.stage (me.0.seen ++ more) h.0 o count_is
              (subst (λ (st : Stage). OpeningSlot history origin key st (me.0.seen ++ more) homes) (sym is.stage) slot),
        ),
        (refl, refl),
      ))

  fits_open : (v : View O I) (log : List (Numbered I)) (serving : ℕ) → v.opened ≡ Some key.object → v.draws ≡ 0 → v.claims ≡ unused_from 0 key.callers → v.olds ≡ [] → log ≡ v.seen
      → v.seen ≡ numbered None (history key.object) → Fits key log serving (opened_up v)
  fits_open v log serving opened draws claims olds whole seen = record {
    running = refl;
    opened = λ x e. cc;
    draws = omega arith;
    single = λ e. absurd (omega arith);
    served = tt;
    seen = subst (λ (z : List (Numbered I)). IsPrefix v.seen z) (sym whole) (prefix_self v.seen);
    olds = subst (Each (λ old. IsPrefix old log)) (sym olds) tt;
    claims = subst (Each (λ c. (c.number < key.callers) × (items_by (Some c.number) log ≡ c.items))) (sym claims)
        (unused_each I (λ c. (c.number < key.callers) × (items_by (Some c.number) log ≡ c.items)) 0 key.callers
        (λ k lt. (omega arith, ap (items_by (Some k)) (whole ∙ seen) ∙ items_by-other (Some k) None (history key.object) refl)));
  }

  -- the lock is open, with one view that has all numbers
  is_open : (count : ℕ) (v : View O I) → key.callers < 4294967296 → v.opened ≡ Some key.object → v.draws ≡ 0 → v.claims ≡ unused_from 0 key.callers → v.olds ≡ []
      → v.seen ≡ numbered None (history key.object) → length v.seen ≡ count → Running history origin key 1 1 count (some (Some key.object) ∷ []) (opened_up v ∷ [])
  is_open count v few opened draws claims olds seen counted = record {
    log = v.seen;
    few = few;
    counted = counted;
    queue = record { held = refl; each = λ x. empty_within x; draws = omega arith };
    shared = record {
      once = λ k lt. omega (arith, ap (claimed k) claims, claimed_once I 0 key.callers k (omega arith) (omega arith));
      all = omega (arith, ap length claims, length-unused I 0 key.callers);
      nobody = λ k le. ap (items_by (Some k)) seen ∙ items_by-other (Some k) None (history key.object) refl;
    };
    slot = record {
      home = λ z. (key.object, refl, sym (ap items seen ∙ items-numbered None (history key.object)), refl);
      away = λ z. absurd (omega arith);
    };
    fits = λ j u at. let only = only_view (opened_up v) u j at in subst (Fits key v.seen 1) only.1 (fits_open v v.seen 1 opened draws claims olds refl seen);
    brought = ap (items_by None) seen ∙ items_by-own None (history key.object);
  }

  -- the opening ends
  pub ends : (slots id : ℕ) (me : Mine O I) → HasBroughtIn history key me → Allows (Kept history origin key) slots id me 1 (λ n. (n + 1) % 2 ^ 64) (EndsOpening (no_step O) me)
  ends slots id me b = on_serving history origin key slots id me (λ n. (n + 1) % 2 ^ 64) (EndsOpening (no_step O) me) (λ ticket serving count homes views stands long at small.
      let h = is_opening ticket serving count homes views id me.0 stands at b.mark in
      let o = h.1 in
      let w : View O I = opened_up me.0 in
      let slot : OpeningSlot history origin key (InTurn 0) me.0.seen homes = subst (λ (st : Stage). OpeningSlot history origin key st me.0.seen homes) b.stage o.slot in
      let home : put_back homes me.1 ≡ some (Some key.object) ∷ [] = λ i. put_back (slot.1 i) (b.hands i) in
      let alone : set views id w ≡ w ∷ [] = alone_again views id me.0 w h.0 o.alone in
      let served : (serving + 1) % 2 ^ 64 ≡ 1 = ap (λ (n : ℕ). (n + 1) % 2 ^ 64) o.none_served in
      let open_now : Running history origin key 1 1 count (some (Some key.object) ∷ []) (w ∷ []) = is_open count me.0 o.few o.opened o.draws o.claims o.olds b.seen o.counted in
      let now : Stands history origin key ticket ((serving + 1) % 2 ^ 64) count (put_back homes me.1) (set views id w) =
      subst (λ (n : ℕ). Stands history origin key n ((serving + 1) % 2 ^ 64) count (put_back homes me.1) (set views id w)) (sym o.first_ticket)
      (subst (λ (n : ℕ). Stands history origin key 1 n count (put_back homes me.1) (set views id w)) (sym served)
      (subst (λ (hs : List (Home (Option O))). Stands history origin key 1 1 count hs (set views id w)) (sym home)
      (subst (λ (vs : List (View O I)). Stands history origin key 1 1 count (some (Some key.object) ∷ []) vs) (sym alone) (inr open_now)))) in
      (w, gives, tt, now, (refl, ap (λ (c : List (ℕ × Option O)). carried_after c gives) b.hands)))

module _ {O I : Type 0} (history : O → List I) (key : Terms O) where
  -- the first view in turn, with the empty slot
  abbrev First : Mine O I
  First = (record (opener key) { stage = InTurn 0 }, (0, None) ∷ [])

  -- and with the object
  abbrev Brought : O → Mine O I
  Brought x = (brought_in (record (opener key) { stage = InTurn 0 }) (history x), (0, Some x) ∷ [])

  pub first_turn : (m n : Mine O I) → m ≡ (opener key, []) → n.0 ≡ record m.0 { stage = InTurn 0 } → n.1 ≡ (0, None) ∷ [] → n ≡ First
  first_turn m n is view hands =
      let v : n.0 ≡ record (opener key) { stage = InTurn 0 } = view ∙ ap (λ (z : Mine O I). record z.0 { stage = InTurn 0 }) is in
      λ i. (v i, hands i)

  pub is_first : (n : Mine O I) → n ≡ First → IsOpening key n
  is_first n e = subst (IsOpening key) (sym e) record { mark = refl; stage = refl; seen = refl }

  pub is_brought : (m n p : Mine O I) (object : O) → m ≡ First → n ≡ (brought_in m.0 (history object), m.1) → p ≡ (n.0, (0, Some object) ∷ rest n.1) → key.object ≡ object → p ≡ Brought key.object
  is_brought m n p object first brought put same =
      let q : n ≡ (brought_in (record (opener key) { stage = InTurn 0 }) (history object), (0, None) ∷ []) = brought ∙ ap (λ (z : Mine O I). (brought_in z.0 (history object), z.1)) first in
      put ∙ (ap (λ (z : Mine O I). (z.0, (0, Some object) ∷ rest z.1)) q ∙ ap Brought (sym same))

  pub has_brought_in : (p : Mine O I) → p ≡ Brought key.object → HasBroughtIn history key p
  has_brought_in p e = subst (HasBroughtIn history key) (sym e) record { mark = refl; stage = refl; seen = refl; hands = refl }

  pub opened_view : (p q : Mine O I) (object : O) → p ≡ Brought key.object → q.0 ≡ opened_up p.0 → q.1 ≡ [] → key.object ≡ object
      → q ≡ (open_view object (numbered None (history object)) (unused_from 0 key.callers), [])
  opened_view p q object is view hands same =
      let v : q.0 ≡ open_view key.object (numbered None (history key.object)) (unused_from 0 key.callers) = view ∙ ap (λ (z : Mine O I). opened_up z.0) is in
      let w : q ≡ (open_view key.object (numbered None (history key.object)) (unused_from 0 key.callers), []) = λ i. (v i, hands i) in
      w ∙ ap (λ (x : O). (open_view x (numbered None (history x)) (unused_from 0 key.callers), [])) same
