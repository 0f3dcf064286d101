-- Each step of a turn keeps the rule, and tells what it tells.
use Rattle.std.proofs.Common.{◌≡◌, ◌≢◌, ℕ, zero, suc, ◌+◌, ◌%◌, ◌^◌, ◌<◌, true, false, List, [], ◌∷◌, ◌++◌, length, set, Option, Some, None, refl, ap, sym, subst, ◌∙◌, arith, ⊎_elim, inr, length-append}
use Rattle.std.proofs.lemmas.List.{append-nil}
use mathlib.Core.Logic.{dite}
use mathlib.Core.Option.{Option as Home, none, some, some-injective, some-ne-none}
use native.Mathlib.Decide.{ℕ_discrete}
use lib.ListN.{get_elem?}
use Rattle.atomic_table.specs.Table.{Step, step, keeps, takes, gives, Allows, put_back, rest, carried_after}
use Rattle.atomic_table.proofs.Lists.{set_again}
use Rattle.catalogue_lock.specs.declared.view.Numbered.{Numbered}
use Rattle.catalogue_lock.specs.declared.view.Claim.{Claim}
use Rattle.catalogue_lock.specs.declared.view.Stage.{Stage}
use Rattle.catalogue_lock.specs.declared.view.Stage.TheVariants.{Idle, Waits, InTurn}
use Rattle.catalogue_lock.specs.declared.view.View.{View}
use Rattle.catalogue_lock.specs.declared.view.Terms.{Terms}
use Rattle.catalogue_lock.specs.History.{items, items_by, numbered}
use Rattle.catalogue_lock.specs.Views.{drawn, admitted, settled, raised, passed, first_number}
use Rattle.catalogue_lock.specs.Rule.{Each, tickets, holds_ticket, turns_of, IsServed, Fits, Slot, Running, Opening, Stands, Kept}
use Rattle.catalogue_lock.specs.Steps.{Mine, Draws, Looks, Settles, Raises, PassesOn, IsInTurn, HasPutBack}
use Rattle.catalogue_lock.proofs.Prefixes.{prefix_self}
use Rattle.catalogue_lock.proofs.Numbers.{items_by-append, items_by-other, items-append, items-numbered, length-numbered}
use Rattle.catalogue_lock.proofs.Totals.{total-set, total-at}
use Rattle.catalogue_lock.proofs.Words.{on_ticket, on_serving, on_count}
use Rattle.catalogue_lock.proofs.Queues.{draws_ticket, keeps_ticket, passes_ticket, none_in_turn, one_in_turn, other_not_in_turn}
use Rattle.catalogue_lock.proofs.Fitting.{each_seat, each_map, fits_else, fits_more, fits_raised, draws_in_all, shared_same, shared_more, not_shared, claimed-grown, length-grown, claims_itself, OwnIn}

-- what a step tells here doesn't depend on its operands
abbrev pub no_step : (O : Type 0) → Step (Option O)
no_step O = step 0 0 0 0 none

module _ {O I Origin : Type 0} (history : O → List I) (origin : O → Origin) (key : Terms O) where
  abbrev pub Stand : ℕ → ℕ → ℕ → List (Home (Option O)) → List (View O I) → Type 0
  Stand = Stands history origin key

  abbrev pub Run : ℕ → ℕ → ℕ → List (Home (Option O)) → List (View O I) → Type 0
  Run = Running history origin key

  alone_opens : (view v : View O I) (id : ℕ) → view.opening ≡ true → get_elem? (view ∷ []) id ≡ some v → v.opening ≡ false → ⊥
  alone_opens view v zero mark at not = cc (some-injective view v at)
  alone_opens view v (suc id) mark at not = some-ne-none v (sym at)

  -- a seat that doesn't open the lock finds it open
  pub is_running : (ticket serving count : ℕ) (homes : List (Home (Option O))) (views : List (View O I)) (id : ℕ) (v : View O I) → Stand ticket serving count homes views
      → get_elem? views id ≡ some v → v.opening ≡ false → Run ticket serving count homes views
  is_running ticket serving count homes views id v stands at not = ⊎_elim
      (λ (o : (view : View O I) × Opening history origin key ticket serving count homes views view). absurd (alone_opens o.0 v id o.1.mark (subst (λ (vs : List (View O I)). get_elem? vs id ≡ some v) o.1.alone at) not))
      (λ (r : Run ticket serving count homes views). r) stands

  -- the slot stays where no view comes into turn or ends it
  slot_stays : (homes : List (Home (Option O))) (views : List (View O I)) (log : List (Numbered I)) (id : ℕ) (v w : View O I) → get_elem? views id ≡ some v → turns_of w.stage ≡ turns_of v.stage
      → Slot history origin key homes views log → Slot history origin key homes (set views id w) log
  slot_stays homes views log id v w at same slot = let e = total-set (λ (u : View O I). turns_of u.stage) views id v w at in record {
    home = λ z. slot.home (omega arith);
    away = λ z. slot.away (omega arith);
  }

  -- draw
  running_draws : (ticket serving count : ℕ) (homes : List (Home (Option O))) (views : List (View O I)) (id : ℕ) (v : View O I) → Run ticket serving count homes views → get_elem? views id ≡ some v
      → v.stage ≡ Idle → length v.claims ≡ 1 → v.draws < 2147483648 → Run (ticket + 1) serving count homes (set views id (drawn v ticket))
  running_draws ticket serving count homes views id v r at idle one room = let w : View O I = drawn v ticket in let f = r.fits id v at in record {
    log = r.log;
    few = r.few;
    counted = r.counted;
    queue = draws_ticket ticket serving views id v r.queue at idle;
    shared = shared_same key.callers views r.log id v w r.shared at (λ k. refl) refl;
    slot = slot_stays homes views r.log id v w at (ap turns_of (sym idle)) r.slot;
    fits = each_seat (Fits key r.log serving) (Fits key r.log serving) views id w (λ j u ne there. r.fits j u there) record {
      running = f.running;
      opened = f.opened;
      draws = omega arith;
      single = λ _. one;
      served = tt;
      seen = f.seen;
      olds = f.olds;
      claims = f.claims;
    };
    brought = r.brought;
  }

  -- the tickets never wrap
  few_tickets : (ticket serving count : ℕ) (homes : List (Home (Option O))) (views : List (View O I)) → Run ticket serving count homes views → ticket + 1 < 18446744073709551616
  few_tickets ticket serving count homes views r =
      let few = r.few in let all = r.shared.all in let sum = r.queue.draws in
      let most = draws_in_all key r.log serving views r.fits in omega arith

  unwrapped : (n k : ℕ) → n + k < 18446744073709551616 → (n + k) % 2 ^ 64 ≡ n + k
  unwrapped n k h = omega arith

  pub draws : (slots id : ℕ) (me : Mine O I) → me.0.opening ≡ false → me.0.stage ≡ Idle → length me.0.claims ≡ 1 → me.0.draws < 2147483648
      → Allows (Kept history origin key) slots id me 0 (λ n. (n + 1) % 2 ^ 64) (Draws (no_step O) me)
  draws slots id me not idle one room = on_ticket history origin key slots id me (λ n. (n + 1) % 2 ^ 64) (Draws (no_step O) me) (λ ticket serving count homes views stands long at small.
      let r = is_running ticket serving count homes views id me.0 stands at not in
      let fits = few_tickets ticket serving count homes views r in
      let next : Run (ticket + 1) serving count homes (set views id (drawn me.0 ticket)) = running_draws ticket serving count homes views id me.0 r at idle one room in
      (drawn me.0 ticket, keeps, tt, subst (λ (n : ℕ). Stand n serving count homes (set views id (drawn me.0 ticket))) (sym (unwrapped ticket 1 fits)) (inr next), (refl, refl)))

  -- look at serving, by the seat whose ticket is served
  served_all : (ticket serving count : ℕ) (homes : List (Home (Option O))) (views : List (View O I)) (r : Run ticket serving count homes views)
      → (j : ℕ) (u : View O I) → get_elem? views j ≡ some u → IsServed serving r.log u.stage u.seen
  served_all ticket serving count homes views r j u at = (r.fits j u at).served

  running_admits : (ticket serving count : ℕ) (homes : List (Home (Option O))) (views : List (View O I)) (id : ℕ) (v : View O I) (r : Run ticket serving count homes views) → get_elem? views id ≡ some v
      → v.stage ≡ Waits serving → (x : O) → homes ≡ some (Some x) ∷ [] → Run ticket serving count (set homes 0 none) (set views id (admitted v serving r.log))
  running_admits ticket serving count homes views id v r at waits x home = let w : View O I = admitted v serving r.log in let f = r.fits id v at in
      let before = none_in_turn ticket serving r.log views id v r.queue (served_all ticket serving count homes views r) at waits in
      let after = total-set (λ (u : View O I). turns_of u.stage) views id v w at in
      let was : turns_of v.stage ≡ 0 = ap turns_of waits in
      record {
        log = r.log;
        few = r.few;
        counted = r.counted;
        queue = keeps_ticket ticket serving views id v w r.queue at (ap tickets (sym waits)) (λ y. ap (holds_ticket y) (sym waits)) refl;
        shared = shared_same key.callers views r.log id v w r.shared at (λ k. refl) refl;
        slot = record {
          home = λ z. absurd (omega arith);
          away = λ z. ap (λ (hs : List (Home (Option O))). set hs 0 none) home;
        };
        fits = each_seat (Fits key r.log serving) (Fits key r.log serving) views id w (λ j u ne there. r.fits j u there) record {
          running = f.running;
          opened = f.opened;
          draws = f.draws;
          single = λ _. f.single (ap tickets waits);
          served = (refl, refl);
          seen = prefix_self r.log;
          olds = tt;
          claims = f.claims;
        };
        brought = r.brought;
      }

  same_ticket : (a b : ℕ) (st : Stage) → st ≡ Waits a → st ≡ Waits b → a ≡ b
  same_ticket a b st p q = cc

  own_claims : (log : List (Numbered I)) (cs : List (Claim I)) → Each (OwnIn key log) cs → Each (λ c. items_by (Some c.number) log ≡ c.items) cs
  own_claims log cs h = each_map (OwnIn key log) (λ c. items_by (Some c.number) log ≡ c.items) (λ c t. t.1) cs h

  pub looks : (slots id : ℕ) (me : Mine O I) (mine : ℕ) → me.0.opening ≡ false → me.0.stage ≡ Waits mine → me.1 ≡ []
      → Allows (Kept history origin key) slots id me 1 (λ n. n) (Looks history origin (no_step O) me)
  looks slots id me mine not waits hands = on_serving history origin key slots id me (λ n. n) (Looks history origin (no_step O) me) (λ ticket serving count homes views stands long at small.
      let r = is_running ticket serving count homes views id me.0 stands at not in
      dite (ℕ_discrete serving mine)
      (λ here.
      let waits' : me.0.stage ≡ Waits serving = waits ∙ ap Waits (sym here) in
      let none = none_in_turn ticket serving r.log views id me.0 r.queue (served_all ticket serving count homes views r) at waits' in
      let h = r.slot.home none in
      let f = r.fits id me.0 at in (
        admitted me.0 serving r.log,
        takes 0 (Some h.0),
        ap (λ (hs : List (Home (Option O))). get_elem? hs 0) h.1,
        inr (running_admits ticket serving count homes views id me.0 r at waits' h.0 h.1),
        λ own stage. (
          λ found. record {
            log = r.log;
            object = h.0;
            view = ap (λ (n : ℕ). admitted me.0 n r.log) found;
            hands = ap (λ (c : List (ℕ × Option O)). (0, Some h.0) ∷ c) hands;
            begins = f.seen;
            whole = h.2;
            origin_is = λ y e. h.3 ∙ ap origin (sym (f.opened y e));
            own = own_claims r.log me.0.claims f.claims;
          },
          λ other. absurd (other (same_ticket serving own me.0.stage waits' stage)),
        ),
      ))
      (λ elsewhere. (
        me.0,
        keeps,
        tt,
        subst (λ (vs : List (View O I)). Stand ticket serving count homes vs) (sym (set_again views id me.0 at)) stands,
        λ own stage. (λ found. absurd (elsewhere (found ∙ same_ticket own mine me.0.stage stage waits)), λ _. refl),
      )))

  -- look at serving, by a seat that holds no ticket
  running_settles : (ticket serving count : ℕ) (homes : List (Home (Option O))) (views : List (View O I)) (id : ℕ) (v : View O I) → Run ticket serving count homes views → get_elem? views id ≡ some v
      → Run ticket serving count homes (set views id (settled v))
  running_settles ticket serving count homes views id v r at = let w : View O I = settled v in let f = r.fits id v at in record {
    log = r.log;
    few = r.few;
    counted = r.counted;
    queue = keeps_ticket ticket serving views id v w r.queue at refl (λ y. refl) refl;
    shared = shared_same key.callers views r.log id v w r.shared at (λ k. refl) refl;
    slot = slot_stays homes views r.log id v w at refl r.slot;
    fits = each_seat (Fits key r.log serving) (Fits key r.log serving) views id w (λ j u ne there. r.fits j u there) record {
      running = f.running;
      opened = f.opened;
      draws = f.draws;
      single = f.single;
      served = f.served;
      seen = f.seen;
      olds = tt;
      claims = f.claims;
    };
    brought = r.brought;
  }

  pub settles : (slots id : ℕ) (me : Mine O I) → me.0.opening ≡ false → Allows (Kept history origin key) slots id me 1 (λ n. n) (Settles (no_step O) me)
  settles slots id me not = on_serving history origin key slots id me (λ n. n) (Settles (no_step O) me) (λ ticket serving count homes views stands long at small.
      let r = is_running ticket serving count homes views id me.0 stands at not in
      let f = r.fits id me.0 at in (
        settled me.0,
        keeps,
        tt,
        inr (running_settles ticket serving count homes views id me.0 r at),
        record {
          log = r.log;
          view = refl;
          hands = refl;
          begins = f.seen;
          olds = f.olds;
          own = own_claims r.log me.0.claims f.claims;
        },
      ))

  -- raise: the core's event
  first_below : (log : List (Numbered I)) (cs : List (Claim I)) → length cs ≡ 1 → Each (OwnIn key log) cs → first_number cs < key.callers
  first_below log [] one h = absurd (omega arith)
  first_below log (c ∷ cs) one h = h.0.0

  running_raises : (ticket serving count : ℕ) (homes : List (Home (Option O))) (views : List (View O I)) (id : ℕ) (v : View O I) (added : List I) → Run ticket serving count homes views
      → get_elem? views id ≡ some v → v.stage ≡ InTurn serving → length v.claims ≡ 1 → Run ticket serving (count + length added) homes (set views id (raised v added))
  running_raises ticket serving count homes views id v added r at turn one =
      let w : View O I = raised v added in
      let f = r.fits id v at in
      let k : ℕ = first_number v.claims in
      let more : List (Numbered I) = numbered (Some k) added in
      let below = first_below r.log v.claims one f.claims in
      let alone = one_in_turn ticket serving r.log views id v r.queue (served_all ticket serving count homes views r) at turn in
      let mine : turns_of v.stage ≡ 1 = ap turns_of turn in
      let after = total-set (λ (u : View O I). turns_of u.stage) views id v w at in
      record {
        log = r.log ++ more;
        few = r.few;
        counted = let c = r.counted in omega (arith, length-append r.log more, length-numbered (Some k) added);
        queue = keeps_ticket ticket serving views id v w r.queue at refl (λ y. refl) refl;
        shared = shared_same key.callers views (r.log ++ more) id v w (shared_more key.callers views r.log k added below r.shared) at (λ n. claimed-grown n v.claims added) (length-grown v.claims added);
        slot = record {
          home = λ z. absurd (omega arith);
          away = λ z. r.slot.away (omega arith);
        };
        fits = each_seat (Fits key r.log serving) (Fits key (r.log ++ more) serving) views id w
            (λ j u ne there. fits_more key r.log serving k added u (other_not_in_turn views id j v u alone at mine ne there)
            (not_shared key.callers views r.log id j k v u r.shared below at (claims_itself v.claims one) ne there) (r.fits j u there))
            (fits_raised key r.log serving added v turn one f);
        brought = items_by-append None r.log more ∙ (ap (λ z. items_by None r.log ++ z) (items_by-other None (Some k) added refl) ∙ (append-nil (items_by None r.log) ∙ r.brought));
      }

  -- a view in turn has the ticket that is served, and has seen the history
  in_turn : (serving t : ℕ) (log : List (Numbered I)) (v : View O I) → v.stage ≡ InTurn t → Fits key log serving v → (t ≡ serving) × (v.seen ≡ log)
  in_turn serving t log v turn f = subst (λ (st : Stage). IsServed serving log st v.seen) turn f.served

  pub raises : (slots id : ℕ) (me : Mine O I) (added : List I) (t by : ℕ) → me.0.opening ≡ false → me.0.stage ≡ InTurn t → length me.0.claims ≡ 1 → by ≡ length added
      → length me.0.seen + by < 18446744073709551616 → Allows (Kept history origin key) slots id me 2 (λ n. (n + by) % 2 ^ 64) (Raises added (no_step O) me)
  raises slots id me added t by not turn one is fit = on_count history origin key slots id me (λ n. (n + by) % 2 ^ 64) (Raises added (no_step O) me) (λ ticket serving count homes views stands long at small.
      let r = is_running ticket serving count homes views id me.0 stands at not in
      let h = in_turn serving t r.log me.0 turn (r.fits id me.0 at) in
      let counted : length me.0.seen ≡ count = ap length h.1 ∙ r.counted in
      let wraps : (count + by) % 2 ^ 64 ≡ count + length added = unwrapped count by (omega arith) ∙ ap (λ (n : ℕ). count + n) is in
      let next : Run ticket serving (count + length added) homes (set views id (raised me.0 added)) = running_raises ticket serving count homes views id me.0 added r at (turn ∙ ap InTurn h.0) one in
      (raised me.0 added, keeps, tt, subst (λ (n : ℕ). Stand ticket serving n homes (set views id (raised me.0 added))) (sym wraps) (inr next), (refl, refl)))

  -- pass on: the slot comes home with the object
  running_passes : (ticket serving count : ℕ) (homes : List (Home (Option O))) (views : List (View O I)) (id : ℕ) (v : View O I) (x : O) (r : Run ticket serving count homes views) → get_elem? views id ≡ some v
      → v.stage ≡ InTurn serving → history x ≡ items r.log → origin x ≡ origin key.object → Run ticket (serving + 1) count (set homes 0 (some (Some x))) (set views id (passed v))
  running_passes ticket serving count homes views id v x r at turn whole same =
      let w : View O I = passed v in
      let f = r.fits id v at in
      let alone = one_in_turn ticket serving r.log views id v r.queue (served_all ticket serving count homes views r) at turn in
      let mine : turns_of v.stage ≡ 1 = ap turns_of turn in
      let after = total-set (λ (u : View O I). turns_of u.stage) views id v w at in
      let out : homes ≡ none ∷ [] = r.slot.away (omega arith) in
      record {
        log = r.log;
        few = r.few;
        counted = r.counted;
        queue = passes_ticket ticket serving views id v w r.queue at turn refl refl;
        shared = shared_same key.callers views r.log id v w r.shared at (λ k. refl) refl;
        slot = record {
          home = λ z. (x, ap (λ (hs : List (Home (Option O))). set hs 0 (some (Some x))) out, whole, same);
          away = λ z. absurd (omega arith);
        };
        fits = each_seat (Fits key r.log serving) (Fits key r.log (serving + 1)) views id w
            (λ j u ne there. fits_else key r.log serving (serving + 1) u (other_not_in_turn views id j v u alone at mine ne there) (r.fits j u there))
            record {
              running = f.running;
              opened = f.opened;
              draws = f.draws;
              single = λ e. absurd (omega arith);
              served = tt;
              seen = f.seen;
              olds = f.olds;
              claims = f.claims;
            };
        brought = r.brought;
      }

  served_below : (ticket serving count : ℕ) (homes : List (Home (Option O))) (views : List (View O I)) (id : ℕ) (v : View O I) → Run ticket serving count homes views → get_elem? views id ≡ some v
      → v.stage ≡ InTurn serving → serving + 1 < 18446744073709551616
  served_below ticket serving count homes views id v r at turn =
      let few = few_tickets ticket serving count homes views r in
      let one : tickets v.stage ≡ 1 = ap tickets turn in
      let h = r.queue.held in
      omega (arith, total-at (λ (u : View O I). tickets u.stage) views id v at)

  pub passes_on : (slots id : ℕ) (me : Mine O I) → HasPutBack history origin me → Allows (Kept history origin key) slots id me 1 (λ n. (n + 1) % 2 ^ 64) (PassesOn (no_step O) me)
  passes_on slots id me b = on_serving history origin key slots id me (λ n. (n + 1) % 2 ^ 64) (PassesOn (no_step O) me) (λ ticket serving count homes views stands long at small.
      let r = is_running ticket serving count homes views id me.0 stands at b.running in
      let f = r.fits id me.0 at in
      let h = in_turn serving b.ticket r.log me.0 b.stage f in
      let turn : me.0.stage ≡ InTurn serving = b.stage ∙ ap InTurn h.0 in
      let o = b.opened in
      let next = running_passes ticket serving count homes views id me.0 b.object r at turn (b.whole ∙ ap items h.1) (o.2 ∙ ap origin (f.opened o.0 o.1)) in
      let back : put_back homes me.1 ≡ set homes 0 (some (Some b.object)) = ap (put_back homes) b.hands in
      let wraps : (serving + 1) % 2 ^ 64 ≡ serving + 1 = unwrapped serving 1 (served_below ticket serving count homes views id me.0 r at turn) in (
        passed me.0,
        gives,
        tt,
        subst (λ (n : ℕ). Stand ticket n count (put_back homes me.1) (set views id (passed me.0))) (sym wraps)
            (subst (λ (hs : List (Home (Option O))). Stand ticket (serving + 1) count hs (set views id (passed me.0))) (sym back) (inr next)),
        (refl, ap (λ (c : List (ℕ × Option O)). carried_after c gives) b.hands),
      ))

module _ {O I Origin : Type 0} (history : O → List I) (origin : O → Origin) where
  -- after the raise and the put back the seat may pass on
  pub has_put_back : (m n : Mine O I) (object : O) (added : List I) → IsInTurn history origin m object added → n ≡ (raised m.0 added, (0, Some object) ∷ rest m.1) → HasPutBack history origin n
  has_put_back m n object added turn is = subst (HasPutBack history origin) (sym is) record {
    ticket = turn.ticket;
    object = object;
    stage = turn.stage;
    running = turn.running;
    hands = ap (λ (c : List (ℕ × Option O)). (0, Some object) ∷ rest c) turn.hands;
    whole = turn.whole ∙ (ap (λ z. items m.0.seen ++ z) (sym (items-numbered (Some (first_number m.0.claims)) added)) ∙ sym (items-append m.0.seen (numbered (Some (first_number m.0.claims)) added)));
    opened = turn.opened;
  }

  -- a seat that waits and isn't served stays as it was
  pub still_waits : (start me n : Mine O I) (ticket found : ℕ) → Looks history origin (no_step O) me found n → me ≡ start → start.0.stage ≡ Waits ticket → found ≢ ticket → n ≡ start
  still_waits start me n ticket found look same waits other = (look ticket (ap (λ (m : Mine O I). m.0.stage) same ∙ waits)).1 other ∙ same

module _ {S : Type 0} where
  -- a seat that holds the slot 0 alone holds it first
  pub holds_slot : (hands : List (ℕ × S)) (x : S) → hands ≡ (0, x) ∷ [] → hands ≡ (0, x) ∷ rest hands
  holds_slot hands x e = e ∙ ap (λ (c : List (ℕ × S)). (0, x) ∷ rest c) (sym e)
