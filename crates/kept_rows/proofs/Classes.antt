-- Rows in order, class by class.
use Rattle.std.proofs.Common.{◌≡◌, ◌∙◌, suc, Bool, true, false, List, [], ◌∷◌, ◌++◌, map, refl, sym, ap, arith}
use Rattle.std.specs.Prelude.{filter, if◌then◌else◌}
use Rattle.std.specs.List.{All, AllByRecursion}
use Rattle.std.specs.List.Sorted.{IsStrictlySortedBy}
use Rattle.std.specs.Map.{keys_of}
use Rattle.std.specs.declared.cmp.Ordering.{Ordering}
use Rattle.std.specs.declared.cmp.Ordering.TheVariants.{Less, Equal, Greater}
use Rattle.std.specs.Ordering.{is_lt}
use Rattle.std.specs.Cmp.{IsTotalOrder, then_total, on_total, nat_cmp_total}
use Rattle.std.proofs.lemmas.Bool.{and_parts, and_from}
use Rattle.std.proofs.lemmas.List.Kept.{IsStrictlySortedBy-filter}
use Rattle.marc_types.specs.Order.{class_rank, key_cmp, key_cmp_total}
use Rattle.marc_types.specs.declared.key.Class.{Class}
use Rattle.marc_types.specs.declared.key.Class.TheVariants.{Authority, Bibliographic}
use Rattle.catalogue_rules.specs.Valid.{IsAscending}
use Rattle.kept_rows.specs.declared.row.KeptRow.{KeptRow}
use Rattle.kept_rows.specs.Rows.{row_of, is_of, rows_in, row_cmp, are_in_order}

row_total : IsTotalOrder row_cmp
unfolding row_cmp
row_total = then_total (on_total (λ r. class_rank r.class) nat_cmp_total) (on_total (λ r. r.key) key_cmp_total)

less_is : (o : Ordering) → is_lt o ≡ true → o ≡ Less
less_is Less h = refl
less_is Equal h = cc
less_is Greater h = cc

next_below : (r next : KeptRow) (rows : List KeptRow) → are_in_order (r ∷ (next ∷ rows)) ≡ true → row_cmp r next ≡ Less
next_below r next rows h = less_is (row_cmp r next) (and_parts (is_lt (row_cmp r next)) (are_in_order (next ∷ rows)) h).0

others_in_order : (r : KeptRow) (rows : List KeptRow) → are_in_order (r ∷ rows) ≡ true → are_in_order rows ≡ true
others_in_order r [] h = refl
others_in_order r (next ∷ rows) h = (and_parts (is_lt (row_cmp r next)) (are_in_order (next ∷ rows)) h).1

below_others : (r next : KeptRow) (rows : List KeptRow) → row_cmp r next ≡ Less → AllByRecursion (λ s. row_cmp next s ≡ Less) rows → AllByRecursion (λ s. row_cmp r s ≡ Less) rows
below_others r next [] first all = tt
below_others r next (s ∷ rows) first all = (row_total.trans r next s first all.0, below_others r next rows first all.1)

-- the first of rows in order stands before all others
first_below : (r : KeptRow) (rows : List KeptRow) → are_in_order (r ∷ rows) ≡ true → AllByRecursion (λ s. row_cmp r s ≡ Less) rows
first_below r [] h = tt
first_below r (next ∷ rows) h =
    let first = next_below r next rows h in
    (first, below_others r next rows first (first_below next rows (others_in_order r (next ∷ rows) h)))

sorted : (rows : List KeptRow) → are_in_order rows ≡ true → IsStrictlySortedBy row_cmp rows
unfolding IsStrictlySortedBy
sorted [] h = tt
sorted (r ∷ rows) h = (first_below r rows h, sorted rows (others_in_order r rows h))

-- rows of one class go by their keys
by_keys : (class : Class) (r s : KeptRow) → is_of class r ≡ true → is_of class s ≡ true → row_cmp r s ≡ key_cmp r.key s.key
unfolding row_cmp
by_keys class r s = at class r.class s.class where
  at : (c a b : Class) → is_of c (record r { class = a }) ≡ true → is_of c (record s { class = b }) ≡ true
      → row_cmp (record r { class = a }) (record s { class = b }) ≡ key_cmp r.key s.key
  at Authority Authority Authority p q = refl
  at Authority Authority Bibliographic p q = cc
  at Authority Bibliographic b p q = cc
  at Bibliographic Bibliographic Bibliographic p q = refl
  at Bibliographic Bibliographic Authority p q = cc
  at Bibliographic Authority b p q = cc

abbrev AreOf : Class → List KeptRow → Type 0
AreOf class rows = AllByRecursion (λ r. is_of class r ≡ true) rows

filtered_on : (class : Class) (r : KeptRow) (others : List KeptRow) (b : Bool) → AreOf class others → is_of class r ≡ b → AreOf class (if b then r ∷ others else others)
filtered_on class r others true are is = (is, are)
filtered_on class r others false are is = are

filtered : (class : Class) (rows : List KeptRow) → AreOf class (filter (is_of class) rows)
filtered class [] = tt
filtered class (r ∷ rows) = filtered_on class r (filter (is_of class) rows) (is_of class r) (filtered class rows) refl

keys_below : (class : Class) (r : KeptRow) (rows : List KeptRow) → is_of class r ≡ true → AreOf class rows → AllByRecursion (λ s. row_cmp r s ≡ Less) rows
    → AllByRecursion (λ key. key_cmp r.key key ≡ Less) (keys_of (map row_of rows))
keys_below class r [] own are below = tt
keys_below class r (s ∷ rows) own are below = (sym (by_keys class r s own are.0) ∙ below.0, keys_below class r rows own are.1 below.1)

sorted_keys : (class : Class) (rows : List KeptRow) → AreOf class rows → IsStrictlySortedBy row_cmp rows → IsStrictlySortedBy key_cmp (keys_of (map row_of rows))
unfolding IsStrictlySortedBy
sorted_keys class [] are s = tt
sorted_keys class (r ∷ rows) are s = (keys_below class r rows are.0 are.1 s.0, sorted_keys class rows are.1 s.1)

-- the keys of each class ascend where rows are in order
pub ordered_ascend : (class : Class) (rows : List KeptRow) → are_in_order rows ≡ true → IsAscending (rows_in class rows)
unfolding rows_in
ordered_ascend class rows h =
    sorted_keys class (filter (is_of class) rows) (filtered class rows) (IsStrictlySortedBy-filter row_cmp (is_of class) rows (sorted rows h))

-- rows of one class whose keys ascend are in order
class_in_order : (class : Class) (rows : List KeptRow) → AreOf class rows → IsStrictlySortedBy key_cmp (keys_of (map row_of rows)) → are_in_order rows ≡ true
unfolding IsStrictlySortedBy
class_in_order class [] are s = refl
class_in_order class (r ∷ []) are s = refl
class_in_order class (r ∷ (next ∷ rows)) are s =
    and_from (is_lt (row_cmp r next)) (are_in_order (next ∷ rows)) (ap is_lt (by_keys class r next are.0 are.1.0 ∙ s.0.0))
    (class_in_order class (next ∷ rows) are.1 s.1)

-- an authority stands before a publication
authority_first : (r s : KeptRow) → is_of Authority r ≡ true → is_of Bibliographic s ≡ true → is_lt (row_cmp r s) ≡ true
unfolding row_cmp
authority_first r s = at r.class s.class where
  at : (a b : Class) → is_of Authority (record r { class = a }) ≡ true → is_of Bibliographic (record s { class = b }) ≡ true
      → is_lt (row_cmp (record r { class = a }) (record s { class = b })) ≡ true
  at Authority Bibliographic p q = refl
  at Authority Authority p q = cc
  at Bibliographic b p q = cc

both_in_order : (xs ys : List KeptRow) → AreOf Authority xs → AreOf Bibliographic ys → are_in_order xs ≡ true → are_in_order ys ≡ true → are_in_order (xs ++ ys) ≡ true
both_in_order [] ys p q h k = k
both_in_order (r ∷ []) [] p q h k = refl
both_in_order (r ∷ []) (s ∷ ys) p q h k = and_from (is_lt (row_cmp r s)) (are_in_order (s ∷ ys)) (authority_first r s p.0 q.0) k
both_in_order (r ∷ (next ∷ xs)) ys p q h k =
    let parts = and_parts (is_lt (row_cmp r next)) (are_in_order (next ∷ xs)) h in
    and_from (is_lt (row_cmp r next)) (are_in_order (next ∷ (xs ++ ys))) parts.0 (both_in_order (next ∷ xs) ys p.1 q parts.1 k)

of_class : (class : Class) (rows : List KeptRow) → All (λ r. is_of class r ≡ true) rows → AreOf class rows
of_class class [] h = tt
of_class class (r ∷ rows) h = (h 0 r (omega arith), of_class class rows (λ k d within. h (suc k) d (omega (arith, within))))

-- authorities whose keys ascend, and publications whose keys ascend behind them, are in order
pub ascending_ordered : (xs ys : List KeptRow) → All (λ r. is_of Authority r ≡ true) xs → All (λ r. is_of Bibliographic r ≡ true) ys
    → IsAscending (map row_of xs) → IsAscending (map row_of ys) → are_in_order (xs ++ ys) ≡ true
ascending_ordered xs ys p q h k =
    let first = of_class Authority xs p in
    let second = of_class Bibliographic ys q in
    both_in_order xs ys first second (class_in_order Authority xs first h) (class_in_order Bibliographic ys second k)
