-- Rows in order: what their order tells of them, and lists that are made by putting one row after another into its place.
use Rattle.std.proofs.Common.{◌≡◌, ◌∙◌, refl, sym, ap, ℕ, Bool, true, false, not, ◌&&◌, ◌||◌, List, [], ◌∷◌, filter, Less, Equal, Greater, Ordering, is_eq, is_le, is_lt}
use Rattle.std.specs.Prelude.{fold}
use Rattle.std.specs.List.{AllByRecursion}
use Rattle.std.specs.List.Sorted.{IsStrictlySortedBy}
use Rattle.std.specs.BTreeSet.{insert_key}
use Rattle.std.specs.BTreeMap.Range.{range_contains}
use Rattle.std.specs.Set.{is_member}
use Rattle.std.specs.Ordering.{match_ordering, nat_cmp, ordering_reverse, ordering_then}
use Rattle.std.specs.Cmp.Lexicographic.{slice_cmp}
use Rattle.std.specs.declared.ops.Bound.TheVariants.{Included, Unbounded}
use Rattle.std.proofs.lemmas.Cmp.{eq_by_cmp_equiv}
use Rattle.std.proofs.lemmas.Map.Keys.{sorted_tail}
use Rattle.std.proofs.lemmas.Map.Lookups.{btree_set_from_contains}
use Rattle.marc_types.specs.Order.{form_cmp, form_cmp_total, form_Decides, key_cmp, key_Decides}
use Rattle.marc_types.specs.declared.form.Form.{Form}
use Rattle.marc_types.specs.declared.key.Key.{Key}
use Rattle.heading_rows.specs.Rows.{browse_row, in_order, is_before, row_cmp, row_cmp_total, same_row}
use Rattle.heading_rows.specs.declared.row.BrowseRow.{BrowseRow}

-- ---- two rows that tie are the same row

both_tie : (a b : Ordering) → is_eq (ordering_then a b) ≡ true → (is_eq a ≡ true) × (is_eq b ≡ true)
both_tie Less b h = absurd cc
both_tie Equal b h = (refl, h)
both_tie Greater b h = absurd cc

pub row_same : (x y : BrowseRow) → same_row x y ≡ true → x ≡ y
unfolding row_cmp
row_same x y h =
    let tie = both_tie (form_cmp x.form y.form) (key_cmp x.key y.key) h in
    let form : x.form ≡ y.form = (form_Decides x.form y.form).0 tie.0 in
    let key : x.key ≡ y.key = (key_Decides x.key y.key).0 tie.1 in
    λ i. record { form = form i; key = key i }

pub row_itself : (x : BrowseRow) → same_row x x ≡ true
row_itself = (eq_by_cmp_equiv row_cmp_total).refl

pub row_turned : (x y : BrowseRow) → same_row x y ≡ same_row y x
row_turned = (eq_by_cmp_equiv row_cmp_total).symm

exact : (x y : BrowseRow) → row_cmp x y ≡ Equal → x ≡ y
exact x y e = row_same x y (ap is_eq e)

-- ---- two lists in order with the same members are one

pub one_order : (xs ys : List BrowseRow) → IsStrictlySortedBy row_cmp xs → IsStrictlySortedBy row_cmp ys
    → ((q : BrowseRow) → is_member same_row xs q ≡ is_member same_row ys q) → xs ≡ ys
one_order xs ys s t same = btree_set_from_contains row_cmp_total (record { keys = xs }) (record { keys = ys }) s t same exact

-- ---- a row put into its place

all_inserted : (P : BrowseRow → Type 0) (xs : List BrowseRow) (k : BrowseRow) → AllByRecursion P xs → P k → AllByRecursion P (insert_key row_cmp xs k)
all_inserted P [] k all p = (p, tt)
all_inserted P (x ∷ xs) k all p = at (row_cmp k x) (all_inserted P xs k all.1 p)
  where
    at : (o : Ordering) → AllByRecursion P (insert_key row_cmp xs k) → AllByRecursion P (match_ordering o (k ∷ x ∷ xs) (x ∷ xs) (x ∷ insert_key row_cmp xs k))
    at Less ih = (p, all)
    at Equal ih = all
    at Greater ih = (all.0, ih)

above_too : (k x : BrowseRow) (xs : List BrowseRow) → row_cmp k x ≡ Less → AllByRecursion (λ y. row_cmp x y ≡ Less) xs → AllByRecursion (λ y. row_cmp k y ≡ Less) xs
above_too k x [] less all = tt
above_too k x (y ∷ ys) less all = (row_cmp_total.trans k x y less all.0, above_too k x ys less all.1)

sorted_at : (x : BrowseRow) (xs : List BrowseRow) (k : BrowseRow) (o : Ordering) → row_cmp k x ≡ o → IsStrictlySortedBy row_cmp (x ∷ xs) → IsStrictlySortedBy row_cmp (insert_key row_cmp xs k)
    → IsStrictlySortedBy row_cmp (match_ordering o (k ∷ x ∷ xs) (x ∷ xs) (x ∷ insert_key row_cmp xs k))
unfolding IsStrictlySortedBy
sorted_at x xs k Less e s ih = ((e, above_too k x xs e s.0), s)
sorted_at x xs k Equal e s ih = s
sorted_at x xs k Greater e s ih = (all_inserted (λ y. row_cmp x y ≡ Less) xs k s.0 (row_cmp_total.antisymm x k ∙ ap ordering_reverse e), ih)

sorted_inserted : (xs : List BrowseRow) (k : BrowseRow) → IsStrictlySortedBy row_cmp xs → IsStrictlySortedBy row_cmp (insert_key row_cmp xs k)
unfolding IsStrictlySortedBy
sorted_inserted [] k s = (tt, tt)
sorted_inserted (x ∷ xs) k s = sorted_at x xs k (row_cmp k x) refl s (sorted_inserted xs k (sorted_tail row_cmp x xs s))

sorted_fold : (xs ys : List BrowseRow) → IsStrictlySortedBy row_cmp xs → IsStrictlySortedBy row_cmp (fold (insert_key row_cmp) xs ys)
sorted_fold xs [] s = s
sorted_fold xs (y ∷ ys) s = sorted_fold (insert_key row_cmp xs y) ys (sorted_inserted xs y s)

pub sorted_in_order : (rows : List BrowseRow) → IsStrictlySortedBy row_cmp (in_order rows)
unfolding in_order IsStrictlySortedBy
sorted_in_order rows = sorted_fold [] rows tt

or_twice : (b m : Bool) → (b || m) ≡ (b || (b || m))
or_twice true m = refl
or_twice false m = refl

or_swapped : (a b m : Bool) → (a || (b || m)) ≡ (b || (a || m))
or_swapped true true m = refl
or_swapped true false m = refl
or_swapped false true m = refl
or_swapped false false m = refl

member_inserted : (xs : List BrowseRow) (k q : BrowseRow) → is_member same_row (insert_key row_cmp xs k) q ≡ (same_row q k || is_member same_row xs q)
member_inserted [] k q = refl
member_inserted (x ∷ xs) k q = at (row_cmp k x) refl (member_inserted xs k q)
  where
    at : (o : Ordering) → row_cmp k x ≡ o → is_member same_row (insert_key row_cmp xs k) q ≡ (same_row q k || is_member same_row xs q)
        → is_member same_row (match_ordering o (k ∷ x ∷ xs) (x ∷ xs) (x ∷ insert_key row_cmp xs k)) q ≡ (same_row q k || (same_row q x || is_member same_row xs q))
    at Less e ih = refl
    at Equal e ih =
        or_twice (same_row q x) (is_member same_row xs q)
        ∙ ap (λ y. same_row q y || (same_row q x || is_member same_row xs q)) (sym (exact k x e))
    at Greater e ih =
        ap (λ b. same_row q x || b) ih ∙ or_swapped (same_row q x) (same_row q k) (is_member same_row xs q)

or_moved : (a b m : Bool) → (b || (a || m)) ≡ ((a || b) || m)
or_moved true true m = refl
or_moved true false m = refl
or_moved false true m = refl
or_moved false false m = refl

member_fold : (xs ys : List BrowseRow) (q : BrowseRow) → is_member same_row (fold (insert_key row_cmp) xs ys) q ≡ (is_member same_row ys q || is_member same_row xs q)
member_fold xs [] q = refl
member_fold xs (y ∷ ys) q =
    member_fold (insert_key row_cmp xs y) ys q
    ∙ ap (λ b. is_member same_row ys q || b) (member_inserted xs y q)
    ∙ or_moved (same_row q y) (is_member same_row ys q) (is_member same_row xs q)

or_none : (b : Bool) → (b || false) ≡ b
or_none true = refl
or_none false = refl

pub member_in_order : (rows : List BrowseRow) (q : BrowseRow) → is_member same_row (in_order rows) q ≡ is_member same_row rows q
unfolding in_order
member_in_order rows q = member_fold [] rows q ∙ or_none (is_member same_row rows q)

-- ---- from a form on

filter_same : (p r : BrowseRow → Bool) → ((x : BrowseRow) → p x ≡ r x) → (xs : List BrowseRow) → filter p xs ≡ filter r xs
filter_same p r same [] = refl
filter_same p r same (x ∷ xs) = rw (same x, filter_same p r same xs) refl

least_bytes : (code number : List ℕ) → is_le (ordering_then (slice_cmp nat_cmp [] code) (slice_cmp nat_cmp [] number)) ≡ true
least_bytes [] [] = refl
least_bytes [] (n ∷ number) = refl
least_bytes (c ∷ code) number = refl

abbrev pub no_key : Key
no_key = record { code = []; number = [] }

least_key : (key : Key) → is_le (key_cmp no_key key) ≡ true
unfolding key_cmp
least_key key = least_bytes key.code key.number

reached : (a b : Ordering) → is_le b ≡ true → (is_le (ordering_then a b) && true) ≡ not (is_lt (ordering_reverse a))
reached Less b e = refl
reached Equal b e = ap (λ c. c && true) e
reached Greater b e = refl

from_first : (form : Form) (q : BrowseRow) → range_contains row_cmp (Included (browse_row form no_key)) Unbounded q ≡ not (is_before form q)
unfolding row_cmp
from_first form q =
    reached (form_cmp form q.form) (key_cmp no_key q.key) (least_key q.key)
    ∙ ap (λ o. not (is_lt o)) (sym (form_cmp_total.antisymm q.form form))

-- the rows from the least key of a form on are those whose form isn't before it
pub rows_reached : (form : Form) (rows : List BrowseRow) →
    filter (range_contains row_cmp (Included (browse_row form no_key)) Unbounded) rows ≡ filter (λ r. not (is_before form r)) rows
rows_reached form rows = filter_same (range_contains row_cmp (Included (browse_row form no_key)) Unbounded) (λ r. not (is_before form r)) (from_first form) rows
