-- A split and a join keep the rule.
use Rattle.std.proofs.Common.{◌≡◌, ◌≢◌, ℕ, ◌+◌, ◌<◌, ◌≤◌, Bool, true, false, nat_lt, List, [], ◌∷◌, ◌++◌, length, set, Option, if◌then◌else◌, refl, ap, sym, subst, ◌∙◌, arith, ⊎_elim, inr, length-append}
use Rattle.std.proofs.lemmas.Bool.Decides.{nat_tests}
use mathlib.Core.List.{IsPrefix}
use mathlib.Core.Option.{Option as Home, some}
use lib.ListN.{get_elem?}
use Rattle.atomic_table.specs.Table.{Splits, Joins}
use Rattle.atomic_table.proofs.Lists.{at_snoc, set_else}
use Rattle.catalogue_lock.specs.declared.view.Numbered.{Numbered}
use Rattle.catalogue_lock.specs.declared.view.Claim.{Claim}
use Rattle.catalogue_lock.specs.declared.view.Stage.TheVariants.{Idle}
use Rattle.catalogue_lock.specs.declared.view.View.{View}
use Rattle.catalogue_lock.specs.declared.view.Terms.{Terms}
use Rattle.catalogue_lock.specs.History.{longer}
use Rattle.catalogue_lock.specs.Views.{other_claims, first_claim, without_first, with_first, copy_of, joined, spent}
use Rattle.catalogue_lock.specs.Rule.{total, Each, tickets, holds_ticket, turns_of, claimed, Fits, Running, Kept}
use Rattle.catalogue_lock.proofs.Totals.{total-set, total-snoc}
use Rattle.catalogue_lock.proofs.Queues.{served_else}
use Rattle.catalogue_lock.proofs.Fitting.{OwnIn, each_seat, claimed-append}
use Rattle.catalogue_lock.proofs.Turning.{is_running}

pub each-append : {X : Type 0} (P : X → Type 0) (xs ys : List X) → Each P xs → Each P ys → Each P (xs ++ ys)
each-append P [] ys h k = k
each-append P (x ∷ xs) ys h k = (h.0, each-append P xs ys h.1 k)

module _ {X : Type 0} where
  chosen : (P : List X → Type 0) (b : Bool) (xs ys : List X) → P xs → P ys → P (if b then xs else ys)
  chosen P true xs ys p q = p
  chosen P false xs ys p q = q

  -- what holds of both lists holds of the longer
  pub of_longer : (P : List X → Type 0) (xs ys : List X) → P xs → P ys → P (longer xs ys)
  of_longer P xs ys p q = chosen P (nat_lt (length ys) (length xs)) xs ys p q

  longest : (xs ys : List X) (b : Bool) → nat_lt (length ys) (length xs) ≡ b → (length xs ≤ length (if b then xs else ys)) × (length ys ≤ length (if b then xs else ys))
  longest xs ys true e = let lt : length ys < length xs = grind (arith, nat_tests) in (omega arith, omega arith)
  longest xs ys false e = let le : length xs ≤ length ys = grind (arith, nat_tests) in (omega arith, omega arith)

  pub longer_first : (xs ys : List X) → length xs ≤ length (longer xs ys)
  longer_first xs ys = (longest xs ys (nat_lt (length ys) (length xs)) refl).0

  pub longer_second : (xs ys : List X) → length ys ≤ length (longer xs ys)
  longer_second xs ys = (longest xs ys (nat_lt (length ys) (length xs)) refl).1

  not_chosen : (xs ys : List X) (b : Bool) → nat_lt (length ys) (length xs) ≡ b → length xs ≤ length ys → (if b then xs else ys) ≡ ys
  not_chosen xs ys true e le = let lt : length ys < length xs = grind (arith, nat_tests) in absurd (omega arith)
  not_chosen xs ys false e le = refl

  -- the second of two lists is the longer where it is no shorter
  pub longer_again : (xs ys : List X) → length xs ≤ length ys → longer xs ys ≡ ys
  longer_again xs ys le = not_chosen xs ys (nat_lt (length ys) (length xs)) refl le

module _ {O I Origin : Type 0} (history : O → List I) (origin : O → Origin) (key : Terms O) where
  -- two views have together what one had
  record Divides (v left right : View O I) : Type 0 where
    stage : left.stage ≡ v.stage
    idle : right.stage ≡ Idle
    draws : left.draws + right.draws ≡ v.draws
    numbers : (k : ℕ) → claimed k left.claims + claimed k right.claims ≡ claimed k v.claims
    count : length left.claims + length right.claims ≡ length v.claims

  -- a measure of the views, after a split
  divided : (f : View O I → ℕ) (views : List (View O I)) (id : ℕ) (v left right : View O I) → get_elem? views id ≡ some v → f left + f right ≡ f v → total f (set views id left ++ right ∷ []) ≡ total f views
  divided f views id v left right at e = omega (arith, total-snoc f (set views id left) right, total-set f views id v left at)

  running_splits : (ticket serving count : ℕ) (homes : List (Home (Option O))) (views : List (View O I)) (id : ℕ) (v left right : View O I) (r : Running history origin key ticket serving count homes views)
      → get_elem? views id ≡ some v → Divides v left right → Fits key r.log serving left → Fits key r.log serving right → Running history origin key ticket serving count homes (set views id left ++ right ∷ [])
  running_splits ticket serving count homes views id v left right r at d fits_left fits_right =
      let none : tickets right.stage ≡ 0 = ap tickets d.idle in
      let same : tickets left.stage ≡ tickets v.stage = ap tickets d.stage in
      let out : turns_of right.stage ≡ 0 = ap turns_of d.idle in
      let turns : turns_of left.stage ≡ turns_of v.stage = ap turns_of d.stage in
      let now = divided (λ u. turns_of u.stage) views id v left right at (omega arith) in
      record {
        log = r.log;
        few = r.few;
        counted = r.counted;
        queue = record {
          held = let h = r.queue.held in omega (arith, divided (λ u. tickets u.stage) views id v left right at (omega arith));
          each = λ x. let a : holds_ticket x left.stage ≡ holds_ticket x v.stage = ap (holds_ticket x) d.stage in let b : holds_ticket x right.stage ≡ 0 = ap (holds_ticket x) d.idle in
              divided (λ u. holds_ticket x u.stage) views id v left right at (omega arith) ∙ r.queue.each x;
          draws = let h = r.queue.draws in omega (arith, divided (λ u. u.draws) views id v left right at d.draws);
        };
        shared = record {
          once = λ k lt. divided (λ u. claimed k u.claims) views id v left right at (d.numbers k) ∙ r.shared.once k lt;
          all = divided (λ u. length u.claims) views id v left right at d.count ∙ r.shared.all;
          nobody = r.shared.nobody;
        };
        slot = record {
          home = λ z. r.slot.home (omega arith);
          away = λ z. r.slot.away (omega arith);
        };
        fits = λ j u there. ⊎_elim
            (each_seat (Fits key r.log serving) (Fits key r.log serving) views id left (λ i w ne was. r.fits i w was) fits_left j u)
            (λ (e : right ≡ u). subst (Fits key r.log serving) e fits_right)
            (at_snoc (set views id left) right u j there);
        brought = r.brought;
      }

  stands_split : (id : ℕ) (v left right : View O I) → v.opening ≡ false → Divides v left right
      → ((log : List (Numbered I)) (serving : ℕ) → Fits key log serving v → Fits key log serving left × Fits key log serving right) → Splits (Kept history origin key) id v left right
  stands_split id v left right not d fits s kept at =
      let r = is_running history origin key kept.ticket kept.serving kept.count s.homes s.views id v kept.stands at not in
      let f = fits r.log kept.serving (r.fits id v at) in record {
        ticket = kept.ticket;
        serving = kept.serving;
        count = kept.count;
        words = kept.words;
        stands = inr (running_splits kept.ticket kept.serving kept.count s.homes s.views id v left right r at d f.0 f.1);
      }

  cut_numbers : (k : ℕ) (cs : List (Claim I)) → claimed k (other_claims cs) + claimed k (first_claim cs) ≡ claimed k cs
  cut_numbers k [] = refl
  cut_numbers k (c ∷ cs) = omega arith

  cut_count : (cs : List (Claim I)) → length (other_claims cs) + length (first_claim cs) ≡ length cs
  cut_count [] = refl
  cut_count (c ∷ cs) = omega arith

  cut_each : (P : Claim I → Type 0) (cs : List (Claim I)) → Each P cs → Each P (other_claims cs) × Each P (first_claim cs)
  cut_each P [] h = (tt, tt)
  cut_each P (c ∷ cs) h = (h.1, (h.0, tt))

  idle_served : (serving : ℕ) (log : List (Numbered I)) (v : View O I) → v.stage ≡ Idle → Rattle.catalogue_lock.specs.Rule.IsServed serving log v.stage v.seen
  idle_served serving log v idle = served_else serving log v.stage v.seen (ap turns_of idle)

  -- the split in `new`
  pub deals : (id : ℕ) (v : View O I) → v.opening ≡ false → v.stage ≡ Idle → v.draws ≡ 0 → Splits (Kept history origin key) id v (without_first v) (with_first v)
  deals id v not idle unused = stands_split id v (without_first v) (with_first v) not
      record { stage = refl; idle = refl; draws = omega arith; numbers = λ k. cut_numbers k v.claims; count = cut_count v.claims }
      (λ log serving f. let cut = cut_each (OwnIn key log) v.claims f.claims in let holds : tickets v.stage ≡ 0 = ap tickets idle in (
        record {
          running = f.running;
          opened = f.opened;
          draws = omega arith;
          single = λ e. absurd (omega arith);
          served = f.served;
          seen = f.seen;
          olds = f.olds;
          claims = cut.0;
        },
        record {
          running = refl;
          opened = f.opened;
          draws = omega arith;
          single = λ e. absurd (omega arith);
          served = tt;
          seen = f.seen;
          olds = tt;
          claims = cut.1;
        },
      ))

  -- the split in `meet`
  pub copies : (id : ℕ) (v : View O I) → v.opening ≡ false → Splits (Kept history origin key) id v v (copy_of v)
  copies id v not = stands_split id v v (copy_of v) not
      record { stage = refl; idle = refl; draws = omega arith; numbers = λ k. omega arith; count = omega arith }
      (λ log serving f. (
        f,
        record {
          running = refl;
          opened = f.opened;
          draws = omega arith;
          single = λ e. absurd (omega arith);
          served = tt;
          seen = f.seen;
          olds = tt;
          claims = tt;
        },
      ))

  -- a measure of the views, after a join
  merged : (f : View O I → ℕ) (views : List (View O I)) (id other : ℕ) (v w both gone : View O I) → get_elem? views id ≡ some v → get_elem? (set views id both) other ≡ some w → f both + f gone ≡ f v + f w
      → total f (set (set views id both) other gone) ≡ total f views
  merged f views id other v w both gone at there e = omega (arith, total-set f views id v both at, total-set f (set views id both) other w gone there)

  fits_joined : (log : List (Numbered I)) (serving : ℕ) (v w : View O I) → v.stage ≡ Idle → Fits key log serving v → Fits key log serving w → Fits key log serving (joined v w)
  fits_joined log serving v w idle f g = let holds : tickets v.stage ≡ 0 = ap tickets idle in record {
    running = f.running;
    opened = f.opened;
    draws = let a = f.draws in let b = g.draws in omega (arith, length-append w.claims v.claims);
    single = λ e. absurd (omega arith);
    served = served_else serving log v.stage (longer v.seen w.seen) (ap turns_of idle);
    seen = of_longer (λ z. IsPrefix z log) v.seen w.seen f.seen g.seen;
    olds = (f.seen, (g.seen, tt));
    claims = each-append (OwnIn key log) w.claims v.claims g.claims f.claims;
  }

  fits_spent : (log : List (Numbered I)) (serving : ℕ) → Fits key log serving (spent {O = O} {I = I})
  fits_spent log serving = record {
    running = refl;
    opened = λ x e. absurd cc;
    draws = omega arith;
    single = λ e. absurd (omega arith);
    served = tt;
    seen = (log, refl);
    olds = tt;
    claims = tt;
  }

  running_joins : (ticket serving count : ℕ) (homes : List (Home (Option O))) (views : List (View O I)) (id other : ℕ) (v w : View O I) → Running history origin key ticket serving count homes views
      → get_elem? views id ≡ some v → other ≢ id → get_elem? (set views id (joined v w)) other ≡ some w → v.stage ≡ Idle → w.stage ≡ Idle
      → Running history origin key ticket serving count homes (set (set views id (joined v w)) other spent)
  running_joins ticket serving count homes views id other v w r at ne there idle rest =
      let both : View O I = joined v w in
      let was : get_elem? views other ≡ some w = sym (set_else views id other both ne) ∙ there in
      let none : tickets w.stage ≡ 0 = ap tickets rest in
      let out : turns_of w.stage ≡ 0 = ap turns_of rest in
      let now = merged (λ u. turns_of u.stage) views id other v w both spent at there (omega arith) in
      record {
        log = r.log;
        few = r.few;
        counted = r.counted;
        queue = record {
          held = let h = r.queue.held in omega (arith, merged (λ u. tickets u.stage) views id other v w both spent at there (omega arith));
          each = λ x. let b : holds_ticket x w.stage ≡ 0 = ap (holds_ticket x) rest in
              merged (λ u. holds_ticket x u.stage) views id other v w both spent at there (omega arith) ∙ r.queue.each x;
          draws = let h = r.queue.draws in omega (arith, merged (λ u. u.draws) views id other v w both spent at there (omega arith));
        };
        shared = record {
          once = λ k lt. merged (λ u. claimed k u.claims) views id other v w both spent at there (omega (arith, claimed-append k w.claims v.claims)) ∙ r.shared.once k lt;
          all = merged (λ u. length u.claims) views id other v w both spent at there (omega (arith, length-append w.claims v.claims)) ∙ r.shared.all;
          nobody = r.shared.nobody;
        };
        slot = record {
          home = λ z. r.slot.home (omega arith);
          away = λ z. r.slot.away (omega arith);
        };
        fits = each_seat (Fits key r.log serving) (Fits key r.log serving) (set views id both) other spent
            (λ j u apart t. each_seat (Fits key r.log serving) (Fits key r.log serving) views id both (λ i x far q. r.fits i x q)
            (fits_joined r.log serving v w idle (r.fits id v at) (r.fits other w was)) j u t)
            (fits_spent r.log serving);
        brought = r.brought;
      }

  pub joins : (id other : ℕ) (v w : View O I) → v.opening ≡ false → v.stage ≡ Idle → w.stage ≡ Idle → Joins (Kept history origin key) id v other w (joined v w) spent
  joins id other v w not idle rest s kept at ne there =
      let r = is_running history origin key kept.ticket kept.serving kept.count s.homes s.views id v kept.stands at not in record {
        ticket = kept.ticket;
        serving = kept.serving;
        count = kept.count;
        words = kept.words;
        stands = inr (running_joins kept.ticket kept.serving kept.count s.homes s.views id other v w r at ne there idle rest);
      }
