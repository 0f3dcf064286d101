-- The passes are dealt by their numbers.
use Rattle.std.proofs.Common.{◌≡◌, ℕ, zero, suc, ◌+◌, ◌<◌, ◌≤◌, List, [], ◌∷◌, ◌++◌, map, length, All, Some, refl, ap, sym, subst, ◌∙◌, arith, length-append}
use Rattle.std.specs.List.{range_with_len}
use mathlib.Core.List.{map-append}
use Rattle.atomic_table.specs.Seated.{TableId}
use Rattle.catalogue_lock.specs.declared.view.Numbered.{Numbered}
use Rattle.catalogue_lock.specs.History.{items_by}
use Rattle.catalogue_lock.specs.Passes.{Pass, new_pass}
use Rattle.catalogue_lock.specs.Views.{IsAtRest, open_view, unused_from, without_first, with_first, pass_at}
use Rattle.catalogue_lock.specs.Steps.{Mine, Deals}

range-snoc : (a n : ℕ) → range_with_len a (suc n) ≡ range_with_len a n ++ (a + n) ∷ []
range-snoc a zero = ap (λ (k : ℕ). k ∷ []) (omega arith)
range-snoc a (suc n) = ap (λ z. a ∷ z) (range-snoc (a + 1) n ∙ ap (λ (k : ℕ). range_with_len (a + 1) n ++ k ∷ []) (omega arith))

module _ {O I : Type 0} (table : TableId) (object : O) (seen : List (Numbered I)) (callers : ℕ) where
  abbrev Dealt : ℕ → Pass O I
  Dealt = new_pass table (Some object) seen

  -- no pass has its number yet
  pub deals_none : (m : Mine O I) (passes : List (Pass O I)) → 0 < callers → passes ≡ [] → m ≡ (open_view object seen (unused_from 0 callers), []) → Deals table object seen callers passes m
  deals_none m passes some_caller none is = subst (λ (ps : List (Pass O I)). Deals table object seen callers ps m) (sym none) (from callers some_caller is)
    where
      from : (n : ℕ) → 0 < n → m ≡ (open_view object seen (unused_from 0 n), []) → Deals table object seen n [] m
      from zero lt e = absurd (omega arith)
      from (suc n) lt e = record { left = n; all = omega arith; view = e; dealt = refl }

  snoc : (passes : List (Pass O I)) (p : Pass O I) → passes ≡ map Dealt (range_with_len 0 (length passes)) → p ≡ Dealt (length passes)
      → passes ++ p ∷ [] ≡ map Dealt (range_with_len 0 (suc (length passes)))
  snoc passes p is same =
      (λ i. is i ++ same i ∷ [])
      ∙ (sym (map-append Dealt (range_with_len 0 (length passes)) (length passes ∷ []))
      ∙ ap (map Dealt) (ap (λ (k : ℕ). range_with_len 0 (length passes) ++ k ∷ []) (omega arith) ∙ sym (range-snoc 0 (length passes))))

  long : (passes : List (Pass O I)) (p : Pass O I) → length (passes ++ p ∷ []) ≡ suc (length passes)
  long passes p = omega (arith, length-append passes (p ∷ []))

  -- one more has
  pub deals_more : (m n : Mine O I) (passes : List (Pass O I)) (p : Pass O I) (d : Deals table object seen callers passes m) → length passes + 1 < callers
      → n ≡ (without_first m.0, m.1) → p ≡ pass_at table (with_first m.0) → Deals table object seen callers (passes ++ p ∷ []) n
  deals_more m n passes p d more is same = next d.left d.all d.view
    where
      next : (left : ℕ) → length passes + suc left ≡ callers → m ≡ (open_view object seen (unused_from (length passes) (suc left)), []) → Deals table object seen callers (passes ++ p ∷ []) n
      next zero e v = absurd (omega arith)
      next (suc left) e v = record {
        left = left;
        all = omega (arith, long passes p);
        view = is ∙ ((λ i. (without_first (v i).0, (v i).1)) ∙ ap (λ (k : ℕ). (open_view object seen (unused_from k (suc left)), [])) (sym (long passes p)));
        dealt = snoc passes p d.dealt (same ∙ ap (λ (w : Mine O I). pass_at table (with_first w.0)) v) ∙ ap (λ (k : ℕ). map Dealt (range_with_len 0 k)) (sym (long passes p));
      }

  -- a pass that was dealt is at rest
  pub dealt_rests : (m n : Mine O I) (passes : List (Pass O I)) → Deals table object seen callers passes m → ((k : ℕ) → items_by (Some k) seen ≡ []) → n ≡ (with_first m.0, []) → IsAtRest n
  dealt_rests m n passes d free is = subst IsAtRest (sym (is ∙ ap (λ (w : Mine O I). (with_first w.0, [])) d.view)) record {
    claim = record { number = length passes; items = [] };
    claims = refl;
    running = refl;
    idle = refl;
    olds = refl;
    hands = refl;
    own = free (length passes);
  }

  one_left : (passes : List (Pass O I)) (left : ℕ) → length passes + suc left ≡ callers → callers ≤ length passes + 1 → left ≡ 0
  one_left passes left e le = omega arith

  -- the seat has the last number
  pub last_view : (m : Mine O I) (passes : List (Pass O I)) (d : Deals table object seen callers passes m) → callers ≤ length passes + 1 → m ≡ (open_view object seen (unused_from (length passes) 1), [])
  last_view m passes d le = d.view ∙ ap (λ (k : ℕ). (open_view object seen (unused_from (length passes) (suc k)), [])) (one_left passes d.left d.all le)

  pub last_rests : (m : Mine O I) (passes : List (Pass O I)) → Deals table object seen callers passes m → callers ≤ length passes + 1 → ((k : ℕ) → items_by (Some k) seen ≡ []) → IsAtRest m
  last_rests m passes d le free = subst IsAtRest (sym (last_view m passes d le)) record {
    claim = record { number = length passes; items = [] };
    claims = refl;
    running = refl;
    idle = refl;
    olds = refl;
    hands = refl;
    own = free (length passes);
  }

  pub deals_all : (m : Mine O I) (passes : List (Pass O I)) (p : Pass O I) (d : Deals table object seen callers passes m) → callers ≤ length passes + 1 → p ≡ pass_at table m.0
      → passes ++ p ∷ [] ≡ map Dealt (range_with_len 0 callers)
  deals_all m passes p d le same =
      let end = one_left passes d.left d.all le in
      let all = d.all in
      let count : suc (length passes) ≡ callers = omega arith in
      snoc passes p d.dealt (same ∙ ap (λ (w : Mine O I). pass_at table w.0) (last_view m passes d le)) ∙ ap (λ (k : ℕ). map Dealt (range_with_len 0 k)) count

module _ {X : Type 0} (f : ℕ → X) where
  pub length-numbered_from : (a n : ℕ) → length (map f (range_with_len a n)) ≡ n
  length-numbered_from a zero = refl
  length-numbered_from a (suc n) = omega (arith, length-numbered_from (a + 1) n)

  -- what holds of the pass of each number holds of all
  pub all_numbered : (P : X → Type 0) → ((k : ℕ) → P (f k)) → (a n : ℕ) → All P (map f (range_with_len a n))
  all_numbered P each a zero k d lt = absurd (omega arith)
  all_numbered P each a (suc n) zero d lt = each a
  all_numbered P each a (suc n) (suc k) d lt = all_numbered P each (a + 1) n k d (omega arith)
