-- The lock at the end.
use Rattle.std.proofs.Common.{◌≡◌, ℕ, zero, suc, ◌+◌, ◌<◌, ◌≤◌, ◌==◌, List, [], ◌∷◌, map, length, slice_get, All, Option, Some, None, refl, ap, sym, subst, ◌∙◌, arith}
use Rattle.std.proofs.lemmas.Bool.Decides.{nat_tests}
use mathlib.Core.List.{IsPrefix}
use mathlib.Core.Option.{Option as Home, some, some-injective}
use lib.ListN.{get_elem?}
use Rattle.atomic_table.specs.Table.{Final, Seen}
use Rattle.catalogue_lock.specs.declared.view.Claim.{Claim}
use Rattle.catalogue_lock.specs.declared.view.Stage.{Stage}
use Rattle.catalogue_lock.specs.declared.view.Stage.TheVariants.{Idle, Waits, InTurn}
use Rattle.catalogue_lock.specs.declared.view.View.{View}
use Rattle.catalogue_lock.specs.declared.view.Terms.{Terms}
use Rattle.catalogue_lock.specs.History.{items_by}
use Rattle.catalogue_lock.specs.Passes.{Pass, Closed}
use Rattle.catalogue_lock.specs.Views.{claim_of}
use Rattle.catalogue_lock.specs.Rule.{total, Each, one_if, tickets, turns_of, claimed, Running, Kept}
use Rattle.catalogue_lock.specs.Steps.{Mine, Gathered}
use Rattle.catalogue_lock.proofs.Prefixes.{prefix_trans}
use Rattle.catalogue_lock.proofs.Totals.{total-gap}
use Rattle.catalogue_lock.proofs.Turning.{is_running}

pub each_get : {X : Type 0} (P : X → Type 0) (xs : List X) (k : ℕ) (x : X) → Each P xs → slice_get xs k ≡ Some x → P x
each_get P [] k x h e = absurd cc
each_get P (y ∷ xs) zero x h e = let same : y ≡ x = cc in subst P same h.0
each_get P (y ∷ xs) (suc k) x h e = each_get P xs k x h.1 e

pub all_each : {X : Type 0} (P Q : X → Type 0) → ((x : X) → P x → Q x) → (xs : List X) → All P xs → Each Q xs
all_each P Q f [] h = tt
all_each P Q f (x ∷ xs) h = (f x (h 0 x (omega arith)), all_each P Q f xs (λ k d lt. h (suc k) d (omega arith)))

-- a stage in turn is of a view with one number
turn_of_one : (st : Stage) (n : ℕ) → (tickets st ≡ 1 → n ≡ 1) → turns_of st ≤ n
turn_of_one Idle n h = omega arith
turn_of_one (Waits t) n h = omega arith
turn_of_one (InTurn t) n h = let e : n ≡ 1 = h refl in omega arith

found_here : (j k rest : ℕ) → 1 ≤ one_if (j == k) + rest → rest ≡ 0 → j ≡ k
found_here j k rest h e = grind (arith, nat_tests)

one_at_most : (j k n m : ℕ) → n ≤ m → one_if (j == k) + n ≤ suc m
one_at_most j k n m h = grind (arith, nat_tests)

module _ {I : Type 0} where
  pub claimed_at_most : (k : ℕ) (cs : List (Claim I)) → claimed k cs ≤ length cs
  claimed_at_most k [] = omega arith
  claimed_at_most k (c ∷ cs) = one_at_most c.number k (claimed k cs) (length cs) (claimed_at_most k cs)

module _ {O I : Type 0} where
  -- a number that is claimed is that of one of the passes
  find_pass : (n : ℕ) (passes : List (Pass O I)) → 1 ≤ claimed n (map claim_of passes) → (k : ℕ) × (p : Pass O I) × (slice_get passes k ≡ Some p) × (p.number ≡ n)
  find_pass n [] h = absurd (omega arith)
  find_pass n (p ∷ passes) h = elim (claimed n (map claim_of passes)) as (λ r. 1 ≤ one_if (p.number == n) + r → (r ≡ claimed n (map claim_of passes)) → (k : ℕ) × (q : Pass O I) × (slice_get (p ∷ passes) k ≡ Some q) × (q.number ≡ n)) [
    | zero ↦ λ some_one is. (0, p, refl, found_here p.number n 0 some_one refl)
    | suc r ↦ λ some_one is. (let t = find_pass n passes (omega arith) in (suc t.0, t.1, t.2, t.3))
  ] h refl

  length-map-claims : (passes : List (Pass O I)) → length (map claim_of passes) ≡ length passes
  length-map-claims [] = refl
  length-map-claims (p ∷ passes) = omega (arith, length-map-claims passes)

  each-claims : (P : Claim I → Type 0) (passes : List (Pass O I)) (k : ℕ) (p : Pass O I) → Each P (map claim_of passes) → slice_get passes k ≡ Some p → P (claim_of p)
  each-claims P [] k p h e = absurd cc
  each-claims P (q ∷ passes) zero p h e = let same : q ≡ p = cc in subst (λ (z : Pass O I). P (claim_of z)) same h.0
  each-claims P (q ∷ passes) (suc k) p h e = each-claims P passes k p h.1 e

module _ {O I Origin : Type 0} (history : O → List I) (origin : O → Origin) (key : Terms O) where
  all_home : (ticket serving count : ℕ) (homes : List (Home (Option O))) (views : List (View O I)) (id : ℕ) (v : View O I) → Running history origin key ticket serving count homes views
      → get_elem? views id ≡ some v → v.stage ≡ Idle → length v.claims ≡ key.callers → total (λ u. turns_of u.stage) views ≡ 0
  all_home ticket serving count homes views id v r at idle every =
      let f : View O I → ℕ = λ u. turns_of u.stage in
      let g : View O I → ℕ = λ u. length u.claims in
      let gap = total-gap f g views (λ j u there. turn_of_one u.stage (length u.claims) (r.fits j u there).single) id v at in
      let out : f v ≡ 0 = ap turns_of idle in
      let all = r.shared.all in
      let mine : g v ≡ key.callers = every in
      omega arith

  has_number : (ticket serving count : ℕ) (homes : List (Home (Option O))) (views : List (View O I)) (id : ℕ) (v : View O I) → Running history origin key ticket serving count homes views
      → get_elem? views id ≡ some v → length v.claims ≡ key.callers → (n : ℕ) → n < key.callers → 1 ≤ claimed n v.claims
  has_number ticket serving count homes views id v r at every n lt =
      let f : View O I → ℕ = λ u. claimed n u.claims in
      let g : View O I → ℕ = λ u. length u.claims in
      let gap = total-gap f g views (λ j u there. claimed_at_most n u.claims) id v at in
      let all = r.shared.all in
      let once = r.shared.once n lt in
      let mine : g v ≡ key.callers = every in
      omega arith

  -- what is known of the object that comes out of the slot
  pub record Ends (passes : List (Pass O I)) (slots : List (Option O)) : Type 0 where
    pub object : O
    pub slot : get_elem? slots 0 ≡ some (Some object)
    pub closed : Closed key.callers passes (history key.object) (history object)
    pub same : origin object ≡ origin key.object

  pub closes : (words : List ℕ) (slots : List (Option O)) (id : ℕ) (m : Mine O I) (passes : List (Pass O I)) → Final (Seen (Kept history origin key) id m.0) words slots → Gathered passes m
      → length passes ≡ key.callers → Ends passes slots
  closes words slots id m passes end g all =
      let kept = end.1.0 in
      let at = end.1.1 in
      let r = is_running history origin key kept.ticket kept.serving kept.count end.0.homes end.0.views id m.0 kept.stands at g.running in
      let every : length m.0.claims ≡ key.callers = ap length g.claims ∙ (length-map-claims passes ∙ all) in
      let home = r.slot.home (all_home kept.ticket kept.serving kept.count end.0.homes end.0.views id m.0 r at g.idle every) in
      let f = r.fits id m.0 at in
      let own = subst (Each (λ c. (c.number < key.callers) × (items_by (Some c.number) r.log ≡ c.items))) g.claims f.claims in record {
        object = home.0;
        slot = end.4 0 (Some home.0) (ap (λ (hs : List (Home (Option O))). get_elem? hs 0) home.1);
        closed = record {
          history = r.log;
          whole = sym home.2;
          unnumbered = r.brought;
          begins = λ k p there. prefix_trans p.seen m.0.seen r.log (each_get (λ (q : Pass O I). IsPrefix q.seen m.0.seen) passes k p g.begins there) f.seen;
          own = λ k p there. (each-claims (λ (c : Claim I). (c.number < key.callers) × (items_by (Some c.number) r.log ≡ c.items)) passes k p own there).1;
          every = λ n lt. find_pass n passes (subst (λ (cs : List (Claim I)). 1 ≤ claimed n cs) g.claims (has_number kept.ticket kept.serving kept.count end.0.homes end.0.views id m.0 r at every n lt));
          nobody = r.shared.nobody;
        };
        same = home.3;
      }

  -- the object that came out is the one in the slot
  pub same_object : (passes : List (Pass O I)) (slots : List (Option O)) (x : O) → Ends passes slots → get_elem? slots 0 ≡ some (Some x)
      → Closed key.callers passes (history key.object) (history x) × (origin x ≡ origin key.object)
  same_object passes slots x e there =
      let one : Some e.object ≡ Some x = some-injective (Some e.object) (Some x) (sym e.slot ∙ there) in
      let is : e.object ≡ x = cc in
      (subst (λ y. Closed key.callers passes (history key.object) (history y)) is e.closed, ap origin (sym is) ∙ e.same)

  pub has_object : (passes : List (Pass O I)) (slots : List (Option O)) → Ends passes slots → get_elem? slots 0 ≡ some None → ⊥
  has_object passes slots e there = let one : Some e.object ≡ None = some-injective (Some e.object) None (sym e.slot ∙ there) in cc
