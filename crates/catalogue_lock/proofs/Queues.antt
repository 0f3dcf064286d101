-- The tickets after each step.
use Rattle.std.proofs.Common.{◌≡◌, ◌≢◌, ℕ, ◌+◌, ◌<◌, ◌≤◌, ◌==◌, List, set, ap, sym, ◌∙◌, arith}
use Rattle.std.proofs.lemmas.Bool.Decides.{nat_tests}
use mathlib.Core.Option.{some}
use lib.ListN.{get_elem?}
use Rattle.catalogue_lock.specs.declared.view.Numbered.{Numbered}
use Rattle.catalogue_lock.specs.declared.view.Stage.{Stage}
use Rattle.catalogue_lock.specs.declared.view.Stage.TheVariants.{Idle, Waits, InTurn}
use Rattle.catalogue_lock.specs.declared.view.View.{View}
use Rattle.catalogue_lock.specs.Views.{drawn}
use Rattle.catalogue_lock.specs.Rule.{total, one_if, within, tickets, holds_ticket, turns_of, Queue, IsServed}
use Rattle.catalogue_lock.proofs.Totals.{total-set, total-at, total-two, total-gap}

within_draw : (serving ticket x : ℕ) → serving ≤ ticket → within serving (ticket + 1) x ≡ within serving ticket x + one_if (ticket == x)
within_draw serving ticket x le = grind (arith, nat_tests)

within_pass : (serving ticket x : ℕ) → serving < ticket → within (serving + 1) ticket x + one_if (serving == x) ≡ within serving ticket x
within_pass serving ticket x lt = grind (arith, nat_tests)

pub within_at_most : (serving ticket x : ℕ) → within serving ticket x ≤ 1
within_at_most serving ticket x = grind (arith, nat_tests)

here_once : (x : ℕ) → one_if (x == x) ≡ 1
here_once x = grind (arith, nat_tests)

module _ {I : Type 0} where
  -- a view in turn holds the ticket that is served
  turn_holds : (serving : ℕ) (log : List (Numbered I)) (st : Stage) (seen : List (Numbered I)) → IsServed serving log st seen → turns_of st ≤ holds_ticket serving st
  turn_holds serving log Idle seen h = omega arith
  turn_holds serving log (Waits t) seen h = omega arith
  turn_holds serving log (InTurn t) seen h = let e : one_if (t == serving) ≡ 1 = ap (λ (k : ℕ). one_if (k == serving)) h.0 ∙ here_once serving in omega arith

  -- what is not in turn is served by any number
  pub served_else : (serving : ℕ) (log : List (Numbered I)) (st : Stage) (seen : List (Numbered I)) → turns_of st ≡ 0 → IsServed serving log st seen
  served_else serving log Idle seen e = tt
  served_else serving log (Waits t) seen e = tt
  served_else serving log (InTurn t) seen e = absurd (omega arith)

module _ {O I : Type 0} where
  pub draws_ticket : (ticket serving : ℕ) (views : List (View O I)) (id : ℕ) (v : View O I) → Queue ticket serving views → get_elem? views id ≡ some v → v.stage ≡ Idle
      → Queue (ticket + 1) serving (set views id (drawn v ticket))
  draws_ticket ticket serving views id v q at idle =
      let w : View O I = drawn v ticket in
      let none : tickets v.stage ≡ 0 = ap tickets idle in
      let before = q.held in
      record {
        held = omega (arith, total-set (λ (u : View O I). tickets u.stage) views id v w at);
        each = λ x. let no : holds_ticket x v.stage ≡ 0 = ap (holds_ticket x) idle in
            let set_to = total-set (λ (u : View O I). holds_ticket x u.stage) views id v w at in
            let e = q.each x in let d = within_draw serving ticket x (omega arith) in omega arith;
        draws = let d = q.draws in omega (arith, total-set (λ (u : View O I). u.draws) views id v w at);
      }

  -- a view changes that holds the same ticket as before
  pub keeps_ticket : (ticket serving : ℕ) (views : List (View O I)) (id : ℕ) (v w : View O I) → Queue ticket serving views → get_elem? views id ≡ some v
      → tickets w.stage ≡ tickets v.stage → ((x : ℕ) → holds_ticket x w.stage ≡ holds_ticket x v.stage) → w.draws ≡ v.draws → Queue ticket serving (set views id w)
  keeps_ticket ticket serving views id v w q at same hold drew = record {
    held = let h = q.held in omega (arith, total-set (λ (u : View O I). tickets u.stage) views id v w at);
    each = λ x. let e = q.each x in let s = hold x in let set_to = total-set (λ (u : View O I). holds_ticket x u.stage) views id v w at in omega arith;
    draws = let d = q.draws in omega (arith, total-set (λ (u : View O I). u.draws) views id v w at);
  }

  pub passes_ticket : (ticket serving : ℕ) (views : List (View O I)) (id : ℕ) (v w : View O I) → Queue ticket serving views → get_elem? views id ≡ some v → v.stage ≡ InTurn serving
      → w.stage ≡ Idle → w.draws ≡ v.draws → Queue ticket (serving + 1) (set views id w)
  passes_ticket ticket serving views id v w q at turn idle drew =
      let one : tickets v.stage ≡ 1 = ap tickets turn in
      let none : tickets w.stage ≡ 0 = ap tickets idle in
      let some_left = total-at (λ (u : View O I). tickets u.stage) views id v at in
      let before = q.held in
      record {
        held = omega (arith, total-set (λ (u : View O I). tickets u.stage) views id v w at);
        each = λ x. let had : holds_ticket x v.stage ≡ one_if (serving == x) = ap (holds_ticket x) turn in
            let no : holds_ticket x w.stage ≡ 0 = ap (holds_ticket x) idle in
            let set_to = total-set (λ (u : View O I). holds_ticket x u.stage) views id v w at in
            let e = q.each x in let d = within_pass serving ticket x (omega arith) in omega arith;
        draws = let d = q.draws in omega (arith, total-set (λ (u : View O I). u.draws) views id v w at);
      }

  abbrev pub AllServed : ℕ → List (Numbered I) → List (View O I) → Type 0
  AllServed serving log views = (j : ℕ) (u : View O I) → get_elem? views j ≡ some u → IsServed serving log u.stage u.seen

  -- while a view waits with the ticket that is served, none is in turn
  pub none_in_turn : (ticket serving : ℕ) (log : List (Numbered I)) (views : List (View O I)) (id : ℕ) (v : View O I) → Queue ticket serving views → AllServed serving log views
      → get_elem? views id ≡ some v → v.stage ≡ Waits serving → total (λ u. turns_of u.stage) views ≡ 0
  none_in_turn ticket serving log views id v q served at waits =
      let f : View O I → ℕ = λ u. turns_of u.stage in
      let g : View O I → ℕ = λ u. holds_ticket serving u.stage in
      let gap = total-gap f g views (λ j u e. turn_holds serving log u.stage u.seen (served j u e)) id v at in
      let mine : g v ≡ 1 = ap (holds_ticket serving) waits ∙ here_once serving in
      let no : f v ≡ 0 = ap turns_of waits in
      let all = q.each serving in let most = within_at_most serving ticket serving in
      omega arith

  -- while a view is in turn, it alone is
  pub one_in_turn : (ticket serving : ℕ) (log : List (Numbered I)) (views : List (View O I)) (id : ℕ) (v : View O I) → Queue ticket serving views → AllServed serving log views
      → get_elem? views id ≡ some v → v.stage ≡ InTurn serving → total (λ u. turns_of u.stage) views ≡ 1
  one_in_turn ticket serving log views id v q served at turn =
      let f : View O I → ℕ = λ u. turns_of u.stage in
      let g : View O I → ℕ = λ u. holds_ticket serving u.stage in
      let gap = total-gap f g views (λ j u e. turn_holds serving log u.stage u.seen (served j u e)) id v at in
      let mine : g v ≡ 1 = ap (holds_ticket serving) turn ∙ here_once serving in
      let yes : f v ≡ 1 = ap turns_of turn in
      let all = q.each serving in let most = within_at_most serving ticket serving in
      let least = total-at f views id v at in
      omega arith

  pub other_not_in_turn : (views : List (View O I)) (id j : ℕ) (v u : View O I) → total (λ u. turns_of u.stage) views ≡ 1 → get_elem? views id ≡ some v → turns_of v.stage ≡ 1
      → j ≢ id → get_elem? views j ≡ some u → turns_of u.stage ≡ 0
  other_not_in_turn views id j v u one at turn ne there = omega (arith, total-two (λ (u : View O I). turns_of u.stage) views id j v u (λ e. ne (sym e)) at there)
