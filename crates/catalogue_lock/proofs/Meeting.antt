-- What a join and the look behind it tell.
use Rattle.std.proofs.Common.{◌≡◌, ℕ, List, [], ◌∷◌, ◌++◌, map, Option, Some, refl, ap, sym, subst, ◌∙◌, add-zero, append_assoc}
use mathlib.Core.List.{IsPrefix}
use Rattle.atomic_table.specs.Seated.{TableId}
use Rattle.catalogue_lock.specs.declared.view.Numbered.{Numbered}
use Rattle.catalogue_lock.specs.declared.view.Claim.{Claim}
use Rattle.catalogue_lock.specs.declared.view.View.{View}
use Rattle.catalogue_lock.specs.History.{items_by, longer}
use Rattle.catalogue_lock.specs.Passes.{Pass, having_seen, HasSeenItsOwn}
use Rattle.catalogue_lock.specs.Views.{IsAtRest, joined, copy_of, settled, pass_at, claim_of, first_number, first_items}
use Rattle.catalogue_lock.specs.Rule.{Each}
use Rattle.catalogue_lock.specs.Steps.{Mine, Settled, Gathered, Gathers}
use Rattle.catalogue_lock.proofs.Prefixes.{prefix_shorter, prefix_trans}
use Rattle.catalogue_lock.proofs.Numbers.{own_between}
use Rattle.catalogue_lock.proofs.Fitting.{each_map}
use Rattle.catalogue_lock.proofs.Splitting.{longer_first, longer_second, longer_again}

module _ {I : Type 0} where
  first_own : (log : List (Numbered I)) (cs : List (Claim I)) (c : Claim I) → cs ≡ c ∷ [] → Each (λ d. items_by (Some d.number) log ≡ d.items) cs → items_by (Some c.number) log ≡ c.items
  first_own log cs c e h = let t : Each (λ (d : Claim I). items_by (Some d.number) log ≡ d.items) (c ∷ []) = subst (Each (λ (d : Claim I). items_by (Some d.number) log ≡ d.items)) e h in t.0

module _ {O I : Type 0} where
  -- the seat of v after it took in w and looked
  pub record Met (v w : View O I) (n : Mine O I) : Type 0 where
    pub log : List (Numbered I)
    pub after : n ≡ (settled (joined v w), [])
    pub begins : IsPrefix (longer v.seen w.seen) log
    pub first : IsPrefix v.seen (longer v.seen w.seen)
    pub second : IsPrefix w.seen (longer v.seen w.seen)
    pub own : Each (λ c. items_by (Some c.number) log ≡ c.items) (w.claims ++ v.claims)

  pub meets : (v w x : View O I) (hands : List (ℕ × Option O)) (m n : Mine O I) → m ≡ (joined v x, hands) → x ≡ w → hands ≡ [] → Settled m n → Met v w n
  meets v w x hands m n is same free told =
      let t : Settled (joined v w, []) n = subst (λ (z : Mine O I). Settled z n) (is ∙ (λ i. (joined v (same i), free i))) told in
      let both : List (Numbered I) = longer v.seen w.seen in record {
        log = t.log;
        after = λ i. (t.view i, t.hands i);
        begins = t.begins;
        first = prefix_shorter v.seen both t.log t.olds.0 t.begins (longer_first v.seen w.seen);
        second = prefix_shorter w.seen both t.log t.olds.1.0 t.begins (longer_second v.seen w.seen);
        own = t.own;
      }

  pub seen_first : (v w : View O I) (n : Mine O I) → Met v w n → IsPrefix v.seen n.0.seen
  seen_first v w n met = subst (λ (m : Mine O I). IsPrefix v.seen m.0.seen) (sym met.after) met.first

  pub seen_second : (v w : View O I) (n : Mine O I) → Met v w n → IsPrefix w.seen n.0.seen
  seen_second v w n met = subst (λ (m : Mine O I). IsPrefix w.seen m.0.seen) (sym met.after) met.second

  -- a pass that met another is at rest again
  pub rests_again : (v u : View O I) (hands : List (ℕ × Option O)) (n : Mine O I) → IsAtRest (v, hands) → Met v (copy_of u) n → IsAtRest n
  rests_again v u hands n rest met = subst IsAtRest (sym met.after) record {
    claim = rest.claim;
    claims = rest.claims;
    running = rest.running;
    idle = rest.idle;
    olds = refl;
    hands = refl;
    own = own_between (Some rest.claim.number) v.seen (longer v.seen u.seen) met.log rest.claim.items met.first met.begins rest.own
        (first_own met.log v.claims rest.claim rest.claims met.own);
  }

  -- and has seen the longer of the two lists
  pub shows : (table then : TableId) (v u : View O I) (n : Mine O I) → then ≡ table → Met v (copy_of u) n → pass_at then n.0 ≡ having_seen (pass_at table v) (longer v.seen u.seen)
  shows table then v u n here met =
      let e : pass_at then n.0 ≡ pass_at table (settled (joined v (copy_of u))) = λ i. pass_at (here i) (met.after i).0 in
      let f : pass_at table (settled (joined v (copy_of u))) ≡ having_seen (pass_at table v) (longer v.seen u.seen) =
      λ i. record { lock = table; opened = v.opened; number = first_number v.claims; turns = add-zero v.draws i; added = first_items v.claims; seen = longer v.seen u.seen } in
      e ∙ f

  -- a seat that took in a pass has what it had, and all of the pass
  pub takes_in : (table : TableId) (v w : View O I) (hands : List (ℕ × Option O)) (n : Mine O I) (done : List (Pass O I)) → Gathered done (v, hands) → IsAtRest (w, []) → Met v w n
      → Gathered (pass_at table w ∷ done) n
  takes_in table v w hands n done g rest met = subst (Gathered (pass_at table w ∷ done)) (sym met.after) record {
    running = g.running;
    idle = g.idle;
    hands = refl;
    claims = (λ i. rest.claims i ++ g.claims i) ∙ ap (λ (c : Claim I). c ∷ map claim_of done)
        (λ i. record { number = first_number (sym rest.claims i); items = first_items (sym rest.claims i) });
    begins = (met.second, each_map (λ (p : Pass O I). IsPrefix p.seen v.seen) (λ p. IsPrefix p.seen (longer v.seen w.seen)) (λ p h. prefix_trans p.seen v.seen (longer v.seen w.seen) h met.first) done g.begins);
  }

  -- the first pass
  pub takes_first : (table : TableId) (m : Mine O I) → IsAtRest m → Gathered (pass_at table m.0 ∷ []) m
  takes_first table m rest = record {
    running = rest.running;
    idle = rest.idle;
    hands = rest.hands;
    claims = rest.claims ∙ ap (λ (c : Claim I). c ∷ []) (λ i. record { number = first_number (sym rest.claims i); items = first_items (sym rest.claims i) });
    begins = (Rattle.catalogue_lock.proofs.Prefixes.prefix_self m.0.seen, tt);
  }

module _ {X : Type 0} (P : X → Type 0) where
  each_front : (xs ys : List X) → Each P (xs ++ ys) → Each P xs
  each_front [] ys h = tt
  each_front (x ∷ xs) ys h = (h.0, each_front xs ys h.1)

  each_last : (xs : List X) (y : X) → Each P (xs ++ y ∷ []) → P y
  each_last [] y h = h.0
  each_last (x ∷ xs) y h = each_last xs y h.1

module _ {O I : Type 0} (lock : TableId) where
  abbrev OfLock : Pass O I → Type 0
  OfLock p = p.lock ≡ lock

  -- the last pass is one of the lock's
  pub last_own : (all left : List (Pass O I)) (p : Pass O I) → all ≡ left ++ p ∷ [] → Each OfLock all → p.lock ≡ lock
  last_own all left p is own = each_last OfLock left p (subst (Each OfLock) is own)

  -- the first seat has the last pass
  pub gathers_first : (all left : List (Pass O I)) (p : Pass O I) (table : TableId) (m : Mine O I) → all ≡ left ++ p ∷ [] → Each OfLock all → pass_at table m.0 ≡ p → IsAtRest m → Gathers lock all left m
  gathers_first all left p table m is own same rest = record {
    done = p ∷ [];
    split = is;
    own = each_front OfLock left (p ∷ []) (subst (Each OfLock) is own);
    gathered = subst (λ (q : Pass O I). Gathered (q ∷ []) m) same (takes_first table m rest);
  }

  -- and then one more at a time
  pub gathers_more : (all left less : List (Pass O I)) (p : Pass O I) (m n : Mine O I) (g : Gathers lock all left m) → left ≡ less ++ p ∷ [] → Gathered (p ∷ g.done) n → Gathers lock all less n
  gathers_more all left less p m n g is more = record {
    done = p ∷ g.done;
    split = g.split ∙ (ap (λ z. z ++ g.done) is ∙ append_assoc less (p ∷ []) g.done);
    own = each_front OfLock less (p ∷ []) (subst (Each OfLock) is g.own);
    gathered = more;
  }

  pub gathers_all : (all left : List (Pass O I)) (m : Mine O I) → Gathers lock all left m → left ≡ [] → Gathered all m
  gathers_all all left m g none = subst (λ z. Gathered z m) (sym (g.split ∙ ap (λ z. z ++ g.done) none)) g.gathered

pub begins_from : {A : Type 0} (xs ys zs ws : List A) → xs ≡ ys → zs ≡ ws → IsPrefix xs zs → IsPrefix ys ws
begins_from xs ys zs ws e f h = subst (IsPrefix ys) f (subst (λ z. IsPrefix z zs) e h)

module _ {O I : Type 0} where
  abbrev pub Seen : Pass O I → List (Numbered I)
  Seen p = p.seen

  -- two passes that met, each after the other, have seen the same
  pub met_twice : (a b a1 b1 a2 b2 va vb : Pass O I) → a1 ≡ a → b1 ≡ having_seen b (longer b.seen a.seen) → a2 ≡ having_seen a1 (longer a1.seen b1.seen) → b2 ≡ b1 → a ≡ va → b ≡ vb
      → (a2 ≡ having_seen va (longer vb.seen va.seen)) × (b2 ≡ having_seen vb (longer vb.seen va.seen))
  met_twice a b a1 b1 a2 b2 va vb first second third fourth here there =
      let both : longer a1.seen b1.seen ≡ longer b.seen a.seen = (λ i. longer (first i).seen (second i).seen) ∙ longer_again a.seen (longer b.seen a.seen) (longer_second b.seen a.seen) in
      let e : a2 ≡ having_seen a (longer b.seen a.seen) = third ∙ (λ i. having_seen (first i) (both i)) in
      let f : b2 ≡ having_seen b (longer b.seen a.seen) = fourth ∙ second in
      (e ∙ (λ i. having_seen (here i) (longer (there i).seen (here i).seen)), f ∙ (λ i. having_seen (there i) (longer (there i).seen (here i).seen)))

  -- a pass at rest has seen its own items
  pub own_seen : (table : TableId) (m : Mine O I) → IsAtRest m → HasSeenItsOwn (pass_at table m.0)
  own_seen table m rest = ap (λ (k : ℕ). items_by (Some k) m.0.seen) (ap first_number rest.claims) ∙ (rest.own ∙ sym (ap first_items rest.claims))
