-- Keys and slots side by side: what one slot says of the rows.
use Rattle.std.proofs.Common.{◌≡◌, ℕ, zero, suc, ◌+◌, ◌<◌, ◌≤◌, Bool, true, false, cond, List, [], ◌∷◌, ◌++◌, length, Option, Some, None, refl, sym, ap, ◌∙◌, subst, if◌then◌else◌, arith}
use mathlib.Core.Bool.{false≢true}
use Rattle.std.specs.Prelude.{slice_get, slice_set}
use Rattle.std.specs.Option.{is_some}
use Rattle.std.specs.List.{AllByRecursion, IsDistinct}
use Rattle.std.specs.Map.{lookup}
use Rattle.std.proofs.lemmas.Map.Keys.{IsDistinct-head, IsDistinct-tail}
use Rattle.marc_types.specs.Order.{same_key}
use Rattle.marc_types.specs.declared.key.Key.{Key}
use Rattle.catalogue_rules.specs.State.{KeptRecord}
use Rattle.numbered_store.specs.Rows.{in_key_order, present, slot_at, with_row}
use Rattle.numbered_store.proofs.Ordered.{key_laws, own_key, tied_key, lookup_ordered, ordered, length_ordered_more, lookup_with_row, order_with_row, same_rows}

abbrev IsApart : Key → List Key → Type 0
IsApart key keys = AllByRecursion (λ other. same_key key other ≡ false) keys

-- a key at a place isn't one that stands apart from all
apart_at : (key other : Key) (keys : List Key) (n : ℕ) → IsApart key keys → slice_get keys n ≡ Some other → same_key key other ≡ false
apart_at key other [] n apart at = absurd (false≢true (ap is_some at))
apart_at key other (k ∷ keys) zero apart at = let e : k ≡ other = cc in subst (λ o. same_key key o ≡ false) e apart.0
apart_at key other (k ∷ keys) (suc n) apart at = apart_at key other keys n apart.1 at

same_apart : (q key : Key) (keys : List Key) → same_key q key ≡ true → IsApart key keys → IsApart q keys
same_apart q key keys e apart = subst (λ k. IsApart k keys) (sym (tied_key q key e)) apart

module _ {V : Type 0} where
  -- a key apart from all has no row
  pub absent : (key : Key) (keys : List Key) (slots : List (Option V)) → IsApart key keys → lookup (same_key key) (present keys slots) ≡ None
  absent key [] slots apart = refl
  absent key (k ∷ keys) [] apart = refl
  absent key (k ∷ keys) (None ∷ slots) apart = absent key keys slots apart.1
  absent key (k ∷ keys) (Some v ∷ slots) apart = rw apart.0 (absent key keys slots apart.1)

  -- what stands under the key at a place
  pub present_at : (keys : List Key) (slots : List (Option V)) (n : ℕ) (key : Key) → length slots ≡ length keys → IsDistinct same_key keys → slice_get keys n ≡ Some key
      → lookup (same_key key) (present keys slots) ≡ slot_at slots n
  present_at [] slots n key long once at = absurd (false≢true (ap is_some at))
  present_at (k ∷ keys) [] n key long once at = absurd (omega (arith, long))
  present_at (k ∷ keys) (None ∷ slots) zero key long once at =
      let e : k ≡ key = cc in subst (λ q. lookup (same_key q) (present keys slots) ≡ None) e (absent k keys slots (IsDistinct-head same_key _ _ once))
  present_at (k ∷ keys) (Some v ∷ slots) zero key long once at =
      let e : k ≡ key = cc in subst (λ q. cond (same_key q k) (Some v) (lookup (same_key q) (present keys slots)) ≡ Some v) e (rw (own_key k) refl)
  present_at (k ∷ keys) (None ∷ slots) (suc n) key long once at = present_at keys slots n key (omega (arith, long)) (IsDistinct-tail same_key _ _ once) at
  present_at (k ∷ keys) (Some v ∷ slots) (suc n) key long once at =
      let off : same_key key k ≡ false = key_laws.symm key k ∙ apart_at k key keys n (IsDistinct-head same_key _ _ once) at in
      rw off (present_at keys slots n key (omega (arith, long)) (IsDistinct-tail same_key _ _ once) at)

  -- ---- another thing in a slot

  first_set : (q k : Key) (x slot : Option V) (keys : List Key) (slots : List (Option V)) (b : Bool) → same_key q k ≡ b → IsApart k keys
      → lookup (same_key q) (present (k ∷ keys) (x ∷ slots)) ≡ cond b x (lookup (same_key q) (present (k ∷ keys) (slot ∷ slots)))
  first_set q k None None keys slots true e apart = absent q keys slots (same_apart q k keys e apart)
  first_set q k None (Some w) keys slots true e apart = absent q keys slots (same_apart q k keys e apart)
  first_set q k None None keys slots false e apart = refl
  first_set q k None (Some w) keys slots false e apart = rw e refl
  first_set q k (Some v) slot keys slots true e apart = rw e refl
  first_set q k (Some v) None keys slots false e apart = rw e refl
  first_set q k (Some v) (Some w) keys slots false e apart = rw e refl

  pub lookup_set : (q : Key) (keys : List Key) (slots : List (Option V)) (n : ℕ) (key : Key) (x : Option V) → length slots ≡ length keys → IsDistinct same_key keys → slice_get keys n ≡ Some key
      → lookup (same_key q) (present keys (slice_set slots n x)) ≡ cond (same_key q key) x (lookup (same_key q) (present keys slots))
  lookup_set q [] slots n key x long once at = absurd (false≢true (ap is_some at))
  lookup_set q (k ∷ keys) [] n key x long once at = absurd (omega (arith, long))
  lookup_set q (k ∷ keys) (slot ∷ slots) zero key x long once at =
      let e : k ≡ key = cc in
      subst (λ u. lookup (same_key q) (present (k ∷ keys) (x ∷ slots)) ≡ cond (same_key q u) x (lookup (same_key q) (present (k ∷ keys) (slot ∷ slots)))) e
      (first_set q k x slot keys slots (same_key q k) refl (IsDistinct-head same_key _ _ once))
  lookup_set q (k ∷ keys) (None ∷ slots) (suc n) key x long once at = lookup_set q keys slots n key x (omega (arith, long)) (IsDistinct-tail same_key _ _ once) at
  lookup_set q (k ∷ keys) (Some w ∷ slots) (suc n) key x long once at =
      by (same_key q k) (same_key q key) refl refl (lookup_set q keys slots n key x (omega (arith, long)) (IsDistinct-tail same_key _ _ once) at)
    where
      by : (b c : Bool) → same_key q k ≡ b → same_key q key ≡ c
          → lookup (same_key q) (present keys (slice_set slots n x)) ≡ cond c x (lookup (same_key q) (present keys slots))
          → cond b (Some w) (lookup (same_key q) (present keys (slice_set slots n x))) ≡ cond c x (cond b (Some w) (lookup (same_key q) (present keys slots)))
      by true true e f rest =
          let off : same_key k key ≡ false = apart_at k key keys n (IsDistinct-head same_key _ _ once) at in
          absurd (false≢true (sym off ∙ ap (λ u. same_key u key) (sym (tied_key q k e)) ∙ f))
      by true false e f rest = refl
      by false c e f rest = rest

  pub length_set : (keys : List Key) (slots : List (Option V)) (n : ℕ) (x : Option V) → length slots ≡ length keys → n < length keys
      → length (present keys (slice_set slots n x)) + (if is_some (slot_at slots n) then 1 else 0) ≡ length (present keys slots) + (if is_some x then 1 else 0)
  length_set [] slots n x long low = absurd (omega (arith, low))
  length_set (k ∷ keys) [] n x long low = absurd (omega (arith, long))
  length_set (k ∷ keys) (None ∷ slots) zero None long low = omega arith
  length_set (k ∷ keys) (None ∷ slots) zero (Some v) long low = omega arith
  length_set (k ∷ keys) (Some w ∷ slots) zero None long low = omega arith
  length_set (k ∷ keys) (Some w ∷ slots) zero (Some v) long low = omega arith
  length_set (k ∷ keys) (None ∷ slots) (suc n) x long low = length_set keys slots n x (omega (arith, long)) (omega (arith, low))
  length_set (k ∷ keys) (Some w ∷ slots) (suc n) x long low = omega (arith, length_set keys slots n x (omega (arith, long)) (omega (arith, low)))

  pub length_present : (keys : List Key) (slots : List (Option V)) → length (present keys slots) ≤ length keys
  length_present [] slots = omega arith
  length_present (k ∷ keys) [] = omega arith
  length_present (k ∷ keys) (None ∷ slots) = omega (arith, length_present keys slots)
  length_present (k ∷ keys) (Some v ∷ slots) = omega (arith, length_present keys slots)

  -- there are as many rows in key order
  pub length_rows : (keys : List Key) (slots : List (Option V)) → IsDistinct same_key keys → length (in_key_order (present keys slots)) ≡ length (present keys slots)
  length_rows [] slots once = refl
  length_rows (k ∷ keys) [] once = refl
  length_rows (k ∷ keys) (None ∷ slots) once = length_rows keys slots (IsDistinct-tail same_key _ _ once)
  length_rows (k ∷ keys) (Some v ∷ slots) once =
      length_ordered_more (k, v) (present keys slots) (absent k keys slots (IsDistinct-head same_key _ _ once)) ∙ ap suc (length_rows keys slots (IsDistinct-tail same_key _ _ once))

  -- a blank slot is no row
  pub present_more : (keys : List Key) (slots : List (Option V)) (key : Key) → length slots ≡ length keys → present (keys ++ key ∷ []) (slots ++ None ∷ []) ≡ present keys slots
  present_more [] [] key long = refl
  present_more [] (s ∷ slots) key long = absurd (omega (arith, long))
  present_more (k ∷ keys) [] key long = absurd (omega (arith, long))
  present_more (k ∷ keys) (None ∷ slots) key long = present_more keys slots key (omega (arith, long))
  present_more (k ∷ keys) (Some v ∷ slots) key long = ap (λ l. (k, v) ∷ l) (present_more keys slots key (omega (arith, long)))

none_below : {X : Type 0} (xs : List X) (n : ℕ) → n < length xs → slice_get xs n ≡ None → ⊥
none_below [] n low e = omega (arith, low)
none_below (x ∷ xs) zero low e = false≢true (sym (ap is_some e))
none_below (x ∷ xs) (suc n) low e = none_below xs n (omega (arith, low)) e

-- another record in a slot is another under its key
pub rows_set : (keys : List Key) (slots : List (Option KeptRecord)) (n : ℕ) (x : Option KeptRecord) → length slots ≡ length keys → IsDistinct same_key keys
    → (key : Option Key) → slice_get keys n ≡ key → n < length keys
    → in_key_order (present keys (slice_set slots n x)) ≡ with_row key x (in_key_order (present keys slots))
rows_set keys slots n x long once None at low = absurd (none_below keys n low at)
rows_set keys slots n x long once (Some key) at low =
    let old = in_key_order (present keys slots) in
    same_rows (in_key_order (present keys (slice_set slots n x))) (with_row (Some key) x old) (ordered (present keys (slice_set slots n x))) (order_with_row (Some key) x old (ordered (present keys slots))) (λ q.
    lookup_ordered q (present keys (slice_set slots n x)) ∙ lookup_set q keys slots n key x long once at ∙ ap (cond (same_key q key) x) (sym (lookup_ordered q (present keys slots)))
    ∙ sym (lookup_with_row q key x old (ordered (present keys slots))))
