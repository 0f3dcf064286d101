-- What holds of each view, and of the pass numbers, after each step.
use Rattle.std.proofs.Common.{◌≡◌, ◌≢◌, ℕ, ◌+◌, ◌*◌, ◌<◌, ◌≤◌, ◌==◌, List, [], ◌∷◌, ◌++◌, length, set, Some, refl, ap, sym, subst, ◌∙◌, arith, ⊎_elim}
use Rattle.std.proofs.lemmas.Bool.Decides.{nat_tests}
use Rattle.std.proofs.lemmas.List.{append-nil}
use mathlib.Core.List.{IsPrefix}
use mathlib.Core.Option.{some}
use lib.ListN.{get_elem?}
use Rattle.atomic_table.proofs.Lists.{at_set}
use Rattle.catalogue_lock.specs.declared.view.Numbered.{Numbered}
use Rattle.catalogue_lock.specs.declared.view.Claim.{Claim}
use Rattle.catalogue_lock.specs.declared.view.Stage.{Stage}
use Rattle.catalogue_lock.specs.declared.view.Stage.TheVariants.{InTurn}
use Rattle.catalogue_lock.specs.declared.view.View.{View}
use Rattle.catalogue_lock.specs.declared.view.Terms.{Terms}
use Rattle.catalogue_lock.specs.History.{items_by, numbered}
use Rattle.catalogue_lock.specs.Views.{grown, first_number, raised}
use Rattle.catalogue_lock.specs.Rule.{total, Each, one_if, claimed, turns_of, Fits, Shared, IsServed}
use Rattle.catalogue_lock.proofs.Prefixes.{prefix_append, prefix_self}
use Rattle.catalogue_lock.proofs.Numbers.{items_by-append, items_by-own, items_by-other, other_number}
use Rattle.catalogue_lock.proofs.Totals.{total-set, total-two, total-below}
use Rattle.catalogue_lock.proofs.Queues.{served_else}

pub each_map : {X : Type 0} (P Q : X → Type 0) → ((x : X) → P x → Q x) → (xs : List X) → Each P xs → Each Q xs
each_map P Q f [] h = tt
each_map P Q f (x ∷ xs) h = (f x h.0, each_map P Q f xs h.1)

-- one seat changes, and what holds of each holds of it and of the others
pub each_seat : {V : Type 0} (P Q : V → Type 0) (views : List V) (id : ℕ) (w : V) → ((j : ℕ) (u : V) → j ≢ id → get_elem? views j ≡ some u → Q u) → Q w
    → (j : ℕ) (u : V) → get_elem? (set views id w) j ≡ some u → Q u
each_seat {V} P Q views id w others mine j u at =
    ⊎_elim (λ (t : (j ≡ id) × (w ≡ u)). subst Q t.1 mine) (λ (t : (j ≢ id) × (get_elem? views j ≡ some u)). others j u t.0 t.1) (at_set views id j w u at)

apart : (j k n : ℕ) → one_if (j == k) + n ≡ 0 → (j ≢ k) × (n ≡ 0)
apart j k n e = (grind (arith, nat_tests), omega arith)

module _ {I : Type 0} where
  pub claimed-grown : (k : ℕ) (cs : List (Claim I)) (added : List I) → claimed k (grown cs added) ≡ claimed k cs
  claimed-grown k [] added = refl
  claimed-grown k (c ∷ cs) added = refl

  pub length-grown : (cs : List (Claim I)) (added : List I) → length (grown cs added) ≡ length cs
  length-grown [] added = refl
  length-grown (c ∷ cs) added = refl

  pub claimed-append : (k : ℕ) (xs ys : List (Claim I)) → claimed k (xs ++ ys) ≡ claimed k xs + claimed k ys
  claimed-append k [] ys = omega arith
  claimed-append k (x ∷ xs) ys = omega (arith, claimed-append k xs ys)

  -- what holds of each claim, where the number isn't among them
  pub not_claimed : (P Q : Claim I → Type 0) (k : ℕ) → ((c : Claim I) → c.number ≢ k → P c → Q c) → (cs : List (Claim I)) → claimed k cs ≡ 0 → Each P cs → Each Q cs
  not_claimed P Q k f [] e h = tt
  not_claimed P Q k f (c ∷ cs) e h = let t = apart c.number k (claimed k cs) e in (f c t.0 h.0, not_claimed P Q k f cs t.1 h.1)

  pub single_claim : (cs : List (Claim I)) → length cs ≡ 1 → (c : Claim I) × (cs ≡ c ∷ [])
  single_claim [] e = absurd (omega arith)
  single_claim (c ∷ []) e = (c, refl)
  single_claim (c ∷ d ∷ cs) e = absurd (omega arith)

  pub claims_itself : (cs : List (Claim I)) → length cs ≡ 1 → 1 ≤ claimed (first_number cs) cs
  claims_itself [] e = absurd (omega arith)
  claims_itself (c ∷ cs) e = let h : one_if (c.number == c.number) ≡ 1 = grind (arith, nat_tests) in omega arith

  -- items under another number leave those of a claim as they were
  pub own_stays : (log : List (Numbered I)) (n k : ℕ) (added : List I) → n ≢ k → items_by (Some n) (log ++ numbered (Some k) added) ≡ items_by (Some n) log
  own_stays log n k added ne = items_by-append (Some n) log (numbered (Some k) added)
      ∙ (ap (λ z. items_by (Some n) log ++ z) (items_by-other (Some n) (Some k) added (other_number n k ne)) ∙ append-nil (items_by (Some n) log))

  pub own_grows : (log : List (Numbered I)) (k : ℕ) (added own : List I) → items_by (Some k) log ≡ own → items_by (Some k) (log ++ numbered (Some k) added) ≡ own ++ added
  own_grows log k added own e = items_by-append (Some k) log (numbered (Some k) added)
      ∙ (ap (λ z. z ++ items_by (Some k) (numbered (Some k) added)) e ∙ ap (λ z. own ++ z) (items_by-own (Some k) added))

module _ {O I : Type 0} (key : Terms O) where
  abbrev pub OwnIn : List (Numbered I) → Claim I → Type 0
  OwnIn log c = (c.number < key.callers) × (items_by (Some c.number) log ≡ c.items)

  -- a view that isn't in turn, at another number served
  pub fits_else : (log : List (Numbered I)) (serving later : ℕ) (u : View O I) → turns_of u.stage ≡ 0 → Fits key log serving u → Fits key log later u
  fits_else log serving later u out f = record {
    running = f.running;
    opened = f.opened;
    draws = f.draws;
    single = f.single;
    served = served_else later log u.stage u.seen out;
    seen = f.seen;
    olds = f.olds;
    claims = f.claims;
  }

  -- a view that isn't in turn, after another raised the count
  pub fits_more : (log : List (Numbered I)) (serving k : ℕ) (added : List I) (u : View O I) → turns_of u.stage ≡ 0 → claimed k u.claims ≡ 0 → Fits key log serving u
      → Fits key (log ++ numbered (Some k) added) serving u
  fits_more log serving k added u out none f = let more = numbered (Some k) added in record {
    running = f.running;
    opened = f.opened;
    draws = f.draws;
    single = f.single;
    served = served_else serving (log ++ more) u.stage u.seen out;
    seen = prefix_append u.seen log more f.seen;
    olds = each_map (λ old. IsPrefix old log) (λ old. IsPrefix old (log ++ more)) (λ old h. prefix_append old log more h) u.olds f.olds;
    claims = not_claimed (OwnIn log) (OwnIn (log ++ more)) k (λ c ne h. (h.0, own_stays log c.number k added ne ∙ h.1)) u.claims none f.claims;
  }

  grown_own : (log : List (Numbered I)) (cs : List (Claim I)) (added : List I) → length cs ≡ 1 → Each (OwnIn log) cs → Each (OwnIn (log ++ numbered (Some (first_number cs)) added)) (grown cs added)
  grown_own log [] added one h = tt
  grown_own log (c ∷ []) added one h = ((h.0.0, own_grows log c.number added c.items h.0.1), tt)
  grown_own log (c ∷ d ∷ cs) added one h = absurd (omega arith)

  -- the view in turn, after it raised the count
  pub fits_raised : (log : List (Numbered I)) (serving : ℕ) (added : List I) (v : View O I) → v.stage ≡ InTurn serving → length v.claims ≡ 1 → Fits key log serving v
      → Fits key (log ++ numbered (Some (first_number v.claims)) added) serving (raised v added)
  fits_raised log serving added v turn one f =
      let more = numbered (Some (first_number v.claims)) added in
      let is : (serving ≡ serving) × (v.seen ≡ log) = subst (λ (st : Stage). IsServed serving log st v.seen) turn f.served in
      let same : v.seen ++ more ≡ log ++ more = ap (λ z. z ++ more) is.1 in
      let long = length-grown v.claims added in
      record {
        running = f.running;
        opened = f.opened;
        draws = let d = f.draws in omega arith;
        single = λ _. long ∙ one;
        served = subst (λ (st : Stage). IsServed serving (log ++ more) st (v.seen ++ more)) (sym turn) (refl, same);
        seen = subst (λ (z : List (Numbered I)). IsPrefix z (log ++ more)) (sym same) (prefix_self (log ++ more));
        olds = each_map (λ old. IsPrefix old log) (λ old. IsPrefix old (log ++ more)) (λ old h. prefix_append old log more h) v.olds f.olds;
        claims = grown_own log v.claims added one f.claims;
      }

  scaled : (views : List (View O I)) → total (λ u. 2147483648 * length u.claims) views ≡ 2147483648 * total (λ u. length u.claims) views
  scaled [] = refl
  scaled (v ∷ vs) = omega (arith, scaled vs)

  -- all draws together
  pub draws_in_all : (log : List (Numbered I)) (serving : ℕ) (views : List (View O I)) → ((j : ℕ) (u : View O I) → get_elem? views j ≡ some u → Fits key log serving u)
      → total (λ u. u.draws) views ≤ 2147483648 * total (λ u. length u.claims) views
  draws_in_all log serving views fits = omega (arith, total-below (λ (u : View O I). u.draws) (λ u. 2147483648 * length u.claims) views (λ j u at. (fits j u at).draws), scaled views)

module _ {O I : Type 0} (callers : ℕ) where
  -- a view changes that has the same numbers as before
  pub shared_same : (views : List (View O I)) (log : List (Numbered I)) (id : ℕ) (v w : View O I) → Shared callers views log → get_elem? views id ≡ some v
      → ((k : ℕ) → claimed k w.claims ≡ claimed k v.claims) → length w.claims ≡ length v.claims → Shared callers (set views id w) log
  shared_same views log id v w h at same long = record {
    once = λ k lt. let one = h.once k lt in let e = same k in omega (arith, total-set (λ (u : View O I). claimed k u.claims) views id v w at);
    all = let a = h.all in omega (arith, total-set (λ (u : View O I). length u.claims) views id v w at);
    nobody = h.nobody;
  }

  -- items are added under a number that a view has
  pub shared_more : (views : List (View O I)) (log : List (Numbered I)) (k : ℕ) (added : List I) → k < callers → Shared callers views log → Shared callers views (log ++ numbered (Some k) added)
  shared_more views log k added lt h = record {
    once = h.once;
    all = h.all;
    nobody = λ n le. own_stays log n k added (λ e. omega arith) ∙ h.nobody n le;
  }

  -- no other view has a number that this one has
  pub not_shared : (views : List (View O I)) (log : List (Numbered I)) (id j k : ℕ) (v u : View O I) → Shared callers views log → k < callers → get_elem? views id ≡ some v → 1 ≤ claimed k v.claims
      → j ≢ id → get_elem? views j ≡ some u → claimed k u.claims ≡ 0
  not_shared views log id j k v u h lt at mine ne there = let one = h.once k lt in
      omega (arith, total-two (λ (z : View O I). claimed k z.claims) views id j v u (λ e. ne (sym e)) at there)
