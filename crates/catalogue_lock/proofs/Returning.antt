-- What a pass has after a turn or a look.
use Rattle.std.proofs.Common.{◌≡◌, ℕ, ◌+◌, List, [], ◌∷◌, ◌++◌, length, drop, Some, refl, ap, sym, subst, ◌∙◌}
use Rattle.std.proofs.lemmas.List.{append-nil}
use Rattle.std.proofs.Math.Seq.{drop-append_seam}
use mathlib.Core.List.{IsPrefix}
use Rattle.atomic_table.specs.Seated.{TableId}
use Rattle.catalogue_lock.specs.declared.view.Numbered.{Numbered}
use Rattle.catalogue_lock.specs.declared.view.Claim.{Claim}
use Rattle.catalogue_lock.specs.declared.view.View.{View}
use Rattle.catalogue_lock.specs.History.{items, items_by, numbered}
use Rattle.catalogue_lock.specs.Passes.{Pass, HasSeenItsOwn, having_turned, having_looked, Turned}
use Rattle.catalogue_lock.specs.Views.{IsAtRest, drawn, admitted, raised, passed, first_number, first_items, grown, pass_at}
use Rattle.catalogue_lock.specs.Rule.{Each}
use Rattle.catalogue_lock.specs.Steps.{Mine, Entered, IsInTurn}
use Rattle.catalogue_lock.proofs.Fitting.{own_grows}

module _ {O I Origin : Type 0} (history : O → List I) (origin : O → Origin) where
  -- what the object's history has beyond the count before is what was added
  beyond : (x y : O) (before : ℕ) (added : List I) → before ≡ length (history x) → history y ≡ history x ++ added → drop before (history y) ≡ added
  beyond x y before added count more = (λ i. drop (count i) (more i)) ∙ drop-append_seam (history x) added

  -- the seat may leave with the object as the call left it
  pub may_leave : (m n : Mine O I) (x y o : O) (before : ℕ) (added : List I) → IsAtRest m → Entered history origin m n x → before ≡ length (history x) → history y ≡ history x ++ added
      → origin y ≡ origin x → m.0.opened ≡ Some o → IsInTurn history origin n y (drop before (history y))
  may_leave m n x y o before added rest e count more same opened =
      let v = e.view in record {
        ticket = e.ticket;
        stage = ap (λ (w : View O I). w.stage) v;
        single = ap (λ (w : View O I). length w.claims) v ∙ ap length rest.claims;
        running = ap (λ (w : View O I). w.opening) v ∙ rest.running;
        hands = e.hands;
        whole = more ∙ ((λ i. e.whole i ++ sym (beyond x y before added count more) i) ∙ ap (λ (w : View O I). items w.seen ++ drop before (history y)) (sym v));
        opened = (o, ap (λ (w : View O I). w.opened) v ∙ opened, same ∙ e.origin_is o opened);
      }

  -- the seat as it leaves
  abbrev Left : Mine O I → ℕ → List (Numbered I) → List I → Mine O I
  Left m ticket log added = (passed (raised (admitted (drawn m.0 ticket) ticket log) added), [])

  pub has_left : (m n q : Mine O I) (x y : O) (before : ℕ) (added : List I) (e : Entered history origin m n x) → before ≡ length (history x) → history y ≡ history x ++ added
      → q ≡ (passed (raised n.0 (drop before (history y))), []) → q ≡ Left m e.ticket e.log added
  has_left m n q x y before added e count more is = is ∙ (λ i. (passed (raised (e.view i) (beyond x y before added count more i)), []))

  own_after : (log : List (Numbered I)) (c : Claim I) (cs : List (Claim I)) (added : List I) → cs ≡ c ∷ [] → Each (λ d. items_by (Some d.number) log ≡ d.items) cs
      → items_by (Some c.number) (log ++ numbered (Some (first_number cs)) added) ≡ c.items ++ added
  own_after log c cs added e h =
      let first : Each (λ d. items_by (Some d.number) log ≡ d.items) (c ∷ []) = subst (Each (λ d. items_by (Some d.number) log ≡ d.items)) e h in
      ap (λ (k : ℕ). items_by (Some c.number) (log ++ numbered (Some k) added)) (ap first_number e) ∙ own_grows log c.number added c.items first.0

  -- it is at rest again
  pub rests_after : (m n q : Mine O I) (x : O) (added : List I) (e : Entered history origin m n x) → IsAtRest m → q ≡ Left m e.ticket e.log added → IsAtRest q
  rests_after m n q x added e rest is = subst IsAtRest (sym is) record {
    claim = record { number = rest.claim.number; items = rest.claim.items ++ added };
    claims = ap (λ (cs : List (Claim I)). grown cs added) rest.claims;
    running = rest.running;
    idle = refl;
    olds = refl;
    hands = refl;
    own = own_after e.log rest.claim m.0.claims added rest.claims e.own;
  }

  first_grown : (c : Claim I) (cs : List (Claim I)) (added : List I) → cs ≡ c ∷ [] → (first_number (grown cs added) ≡ first_number cs) × (first_items (grown cs added) ≡ first_items cs ++ added)
  first_grown c cs added e = subst (λ (z : List (Claim I)). (first_number (grown z added) ≡ first_number z) × (first_items (grown z added) ≡ first_items z ++ added)) (sym e) (refl, refl)

  pass_after : (table : TableId) (m n : Mine O I) (x : O) (added : List I) (e : Entered history origin m n x) → IsAtRest m
      → pass_at table (Left m e.ticket e.log added).0 ≡ having_turned (pass_at table m.0) added (e.log ++ numbered (Some (first_number m.0.claims)) added)
  pass_after table m n x added e rest = let g = first_grown rest.claim m.0.claims added rest.claims in
      λ i. record { lock = table; opened = m.0.opened; number = g.0 i; turns = m.0.draws + 1; added = g.1 i; seen = e.log ++ numbered (Some (first_number m.0.claims)) added }

  own_pass : (table : TableId) (m n : Mine O I) (x : O) (added : List I) (e : Entered history origin m n x) → IsAtRest m
      → HasSeenItsOwn (having_turned (pass_at table m.0) added (e.log ++ numbered (Some (first_number m.0.claims)) added))
  own_pass table m n x added e rest =
      let number : first_number m.0.claims ≡ rest.claim.number = ap first_number rest.claims in
      let mine : first_items m.0.claims ≡ rest.claim.items = ap first_items rest.claims in
      ap (λ (k : ℕ). items_by (Some k) (e.log ++ numbered (Some (first_number m.0.claims)) added)) number
      ∙ (own_after e.log rest.claim m.0.claims added rest.claims e.own ∙ ap (λ z. z ++ added) (sym mine))

  -- what the turn did
  pub turned : {C R : Type 0} (replies : List I → C → R → List I → Type 0) (call : C) (reply : R) (table then : TableId) (old : Pass O I) (m n q : Mine O I) (x : O) (added : List I) (e : Entered history origin m n x)
      → IsAtRest m → q ≡ Left m e.ticket e.log added → then ≡ table → pass_at table m.0 ≡ old → replies (history x) call reply added → Turned replies call reply old (pass_at then q.0)
  turned replies call reply table then old m n q x added e rest is here view replied =
      let after : pass_at then q.0 ≡ having_turned (pass_at table m.0) added (e.log ++ numbered (Some (first_number m.0.claims)) added) =
      (λ i. pass_at (here i) (is i).0) ∙ pass_after table m n x added e rest in
      subst (λ (p : Pass O I). Turned replies call reply p (pass_at then q.0)) view record {
        before = e.log;
        added = added;
        begins = e.begins;
        replied = subst (λ z. replies z call reply added) e.whole replied;
        pass = after;
        own = subst HasSeenItsOwn (sym after) (own_pass table m n x added e rest);
      }

module _ {O I : Type 0} where
  -- a look adds nothing
  pub record Looked (h : List I) (old new : Pass O I) : Type 0 where
    pub whole : h ≡ items new.seen
    pub begins : IsPrefix old.seen new.seen
    pub pass : new ≡ having_looked old new.seen
    pub own : HasSeenItsOwn new

  pub looked : (h : List I) (old new : Pass O I) → Turned {C = Unit {0}} {R = Unit {0}} (λ before _ _ added. (h ≡ before) × (added ≡ [])) tt tt old new → Looked h old new
  looked h old new t =
      let none = t.replied.1 in
      let seen : new.seen ≡ t.before = ap (λ (p : Pass O I). p.seen) t.pass ∙ (ap (λ z. t.before ++ numbered (Some old.number) z) none ∙ append-nil t.before) in
      let again : having_turned old t.added (t.before ++ numbered (Some old.number) t.added) ≡ having_looked old new.seen =
      (λ i. having_turned old (none i) (t.before ++ numbered (Some old.number) (none i)))
      ∙ (λ i. record { lock = old.lock; opened = old.opened; number = old.number; turns = old.turns + 1; added = append-nil old.added i; seen = (append-nil t.before ∙ sym seen) i }) in record {
        whole = t.replied.0 ∙ ap items (sym seen);
        begins = subst (IsPrefix old.seen) (sym seen) t.begins;
        pass = t.pass ∙ again;
        own = t.own;
      }

-- an answer over equal data
pub same_answer : {Origin I Q A : Type 0} (answers : Origin → List I → Q → A → Type 0) (o p : Origin) (h k : List I) (q : Q) (a : A) → o ≡ p → h ≡ k → answers o h q a → answers p k q a
same_answer answers o p h k q a here there told = subst (λ z. answers p z q a) there (subst (λ z. answers z h q a) here told)
