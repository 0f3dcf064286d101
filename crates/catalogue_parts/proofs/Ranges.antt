-- Parts that bounds make: each key is in one of them, and of rows in key order those of the first part come first, and so on.
use Rattle.std.proofs.Common.{◌≡◌, ℕ, ◌+◌, Bool, true, false, ◌&&◌, not, cond, List, [], ◌∷◌, ◌++◌, map, length, refl, sym, ap, ◌∙◌, arith}
use Rattle.std.specs.List.Sorted.{IsStrictlySortedBy}
use Rattle.std.specs.Prelude.{count_by}
use Rattle.std.specs.List.{flat_map, AllByRecursion}
use Rattle.std.specs.Map.{keys_of}
use Rattle.std.specs.Ordering.{is_lt}
use Rattle.std.specs.declared.cmp.Ordering.{Ordering}
use Rattle.std.specs.declared.cmp.Ordering.TheVariants.{Less, Equal, Greater}
use Rattle.std.proofs.lemmas.List.{append-nil, length-map}
use Rattle.std.proofs.lemmas.List.Sums.{sum_by-cons}
use Rattle.marc_types.specs.Order.{key_cmp, key_cmp_total}
use Rattle.marc_types.specs.declared.key.Key.{Key}
use Rattle.catalogue_rules.specs.State.{Row}
use Rattle.catalogue_rules.specs.Valid.{IsAscending}
use Rattle.catalogue_parts.specs.Parts.{Part, rows_in, every_record, before, from, ranges}
use Rattle.catalogue_parts.proofs.Placed.{ascend_in}

-- ---- each key is in one part

abbrev count_in : Key → List Part → ℕ
count_in key parts = count_by (λ mine. mine key) parts

count_cons : (key : Key) (mine : Part) (parts : List Part) → count_in key (mine ∷ parts) ≡ cond (mine key) 1 0 + count_in key parts
count_cons key mine parts = sum_by-cons (λ (m : Part). cond (m key) 1 0) mine parts

count_from : (key bound : Key) (parts : List Part) → count_in key (map (from bound) parts) ≡ cond (before bound key) 0 (count_in key parts)
count_from key bound [] = at (before bound key)
  where
    at : (b : Bool) → count_in key [] ≡ cond b 0 (count_in key [])
    at true = refl
    at false = refl
count_from key bound (mine ∷ parts) = count_cons key (from bound mine) (map (from bound) parts) ∙ at (before bound key) (count_from key bound parts)
  where
    at : (b : Bool) → count_in key (map (from bound) parts) ≡ cond b 0 (count_in key parts) →
        cond (not b && mine key) 1 0 + count_in key (map (from bound) parts) ≡ cond b 0 (count_in key (mine ∷ parts))
    at true ih = omega arith
    at false ih = ap (λ n. cond (mine key) 1 0 + n) ih ∙ sym (count_cons key mine parts)

pub in_one_range : (bounds : List Key) (key : Key) → count_in key (ranges bounds) ≡ 1
in_one_range [] key = refl
in_one_range (bound ∷ bounds) key =
    count_cons key (before bound) (map (from bound) (ranges bounds)) ∙ ap (λ n. cond (before bound key) 1 0 + n) (count_from key bound (ranges bounds))
    ∙ at (before bound key) (in_one_range bounds key)
  where
    at : (b : Bool) → count_in key (ranges bounds) ≡ 1 → cond b 1 0 + cond b 0 (count_in key (ranges bounds)) ≡ 1
    at true one = refl
    at false one = omega arith

pub as_many_ranges : (bounds : List Key) → length (ranges bounds) ≡ length bounds + 1
as_many_ranges [] = refl
as_many_ranges (bound ∷ bounds) = let same = length-map (ranges bounds) (from bound) in let rest = as_many_ranges bounds in omega arith

-- ---- rows in key order, part after part

rows_from : (bound : Key) (mine : Part) (rows : List Row) → rows_in (from bound mine) rows ≡ rows_in mine (rows_in (λ key. not (before bound key)) rows)
rows_from bound mine [] = refl
rows_from bound mine (row ∷ rows) = at (before bound row.0) (rows_from bound mine rows)
  where
    at : (b : Bool) → rows_in (from bound mine) rows ≡ rows_in mine (rows_in (λ key. not (before bound key)) rows) →
        cond (not b && mine row.0) (row ∷ rows_in (from bound mine) rows) (rows_in (from bound mine) rows)
        ≡ rows_in mine (cond (not b) (row ∷ rows_in (λ key. not (before bound key)) rows) (rows_in (λ key. not (before bound key)) rows))
    at true ih = ih
    at false ih = ap (λ l. cond (mine row.0) (row ∷ l) l) ih

all_from : (bound : Key) (rows : List Row) (parts : List Part) →
    flat_map (λ mine. rows_in mine rows) (map (from bound) parts) ≡ flat_map (λ mine. rows_in mine (rows_in (λ key. not (before bound key)) rows)) parts
all_from bound rows [] = refl
all_from bound rows (mine ∷ parts) = λ i. rows_from bound mine rows i ++ all_from bound rows parts i

not_before : (bound key other : Key) → before bound key ≡ false → key_cmp key other ≡ Less → before bound other ≡ false
not_before bound key other later less = at (key_cmp other bound) refl
  where
    at : (o : Ordering) → key_cmp other bound ≡ o → is_lt o ≡ false
    at Less e = sym (ap is_lt (key_cmp_total.trans key other bound less e)) ∙ later
    at Equal e = refl
    at Greater e = refl

none_before : (bound key : Key) (rows : List Row) → before bound key ≡ false → AllByRecursion (λ y. key_cmp key y ≡ Less) (keys_of rows) → rows_in (before bound) rows ≡ []
none_before bound key [] later below = refl
none_before bound key (row ∷ rows) later below =
    ap (λ b. cond b (row ∷ rows_in (before bound) rows) (rows_in (before bound) rows)) (not_before bound key row.0 later below.0) ∙ none_before bound key rows later below.1

all_behind : (bound key : Key) (rows : List Row) → before bound key ≡ false → AllByRecursion (λ y. key_cmp key y ≡ Less) (keys_of rows) →
    rows_in (λ k. not (before bound k)) rows ≡ rows
all_behind bound key [] later below = refl
all_behind bound key (row ∷ rows) later below =
    let behind = rows_in (λ k. not (before bound k)) rows in
    ap (λ b. cond (not b) (row ∷ behind) behind) (not_before bound key row.0 later below.0) ∙ ap (λ l. row ∷ l) (all_behind bound key rows later below.1)

before_and_from : (bound : Key) (rows : List Row) → IsAscending rows → rows_in (before bound) rows ++ rows_in (λ key. not (before bound key)) rows ≡ rows
unfolding IsStrictlySortedBy
before_and_from bound [] s = refl
before_and_from bound (row ∷ rows) s = at (before bound row.0) refl (before_and_from bound rows s.1)
  where
    first : List Row
    first = rows_in (before bound) rows

    behind : List Row
    behind = rows_in (λ key. not (before bound key)) rows

    at : (b : Bool) → before bound row.0 ≡ b → first ++ behind ≡ rows → cond b (row ∷ first) first ++ cond (not b) (row ∷ behind) behind ≡ row ∷ rows
    at true e ih = ap (λ l. row ∷ l) ih
    at false e ih = ap (λ l. l ++ row ∷ behind) (none_before bound row.0 rows e s.0) ∙ ap (λ l. row ∷ l) (all_behind bound row.0 rows e s.0)

pub rows_in_turn : (bounds : List Key) (rows : List Row) → IsAscending rows → flat_map (λ mine. rows_in mine rows) (ranges bounds) ≡ rows
rows_in_turn [] rows s = append-nil (rows_in every_record rows) ∙ whole rows
  where
    whole : (others : List Row) → rows_in every_record others ≡ others
    whole [] = refl
    whole (row ∷ others) = ap (λ l. row ∷ l) (whole others)
rows_in_turn (bound ∷ bounds) rows s =
    ap (λ l. rows_in (before bound) rows ++ l)
    (all_from bound rows (ranges bounds) ∙ rows_in_turn bounds (rows_in (λ key. not (before bound key)) rows) (ascend_in (λ key. not (before bound key)) rows s))
    ∙ before_and_from bound rows s
