-- A row is put into its key's place or taken from it: the keys still ascend, and other authorities are found as before.
use Rattle.std.proofs.Common.{◌≡◌, Bool, true, false, cond, List, [], ◌∷◌, map, Option, Some, None, refl, sym, ap, ◌∙◌, if◌then◌else◌}
use Rattle.std.specs.Prelude.{find, filter_map}
use Rattle.std.specs.List.{AllByRecursion, cons_option}
use Rattle.std.specs.List.Sorted.{IsStrictlySortedBy}
use Rattle.std.specs.Map.{keys_of, remove_entry}
use Rattle.std.specs.BTreeMap.{insert_entry}
use Rattle.std.specs.Ordering.{is_eq, ordering_reverse, match_ordering}
use Rattle.std.specs.declared.cmp.Ordering.{Ordering}
use Rattle.std.specs.declared.cmp.Ordering.TheVariants.{Less, Equal, Greater}
use Rattle.std.specs.Cmp.{eq_by_cmp_equiv}
use Rattle.marc_types.specs.Order.{key_cmp, key_cmp_total, key_Decides, same_key}
use Rattle.marc_types.specs.declared.key.Key.{Key}
use Rattle.entry_record.specs.Identity.{is_deletion}
use Rattle.entry_record.specs.Authority.{Linkable}
use Rattle.catalogue_rules.specs.State.{KeptField, KeptRecord, Row, fields_of, row_linkable, each_in_row, new_record}
use Rattle.catalogue_rules.specs.Choice.{has_key}
use Rattle.catalogue_rules.specs.Settle.{Arrival, place}
use Rattle.catalogue_rules.specs.Valid.{IsAscending}
use Rattle.catalogue_rules.proofs.Elements.{Each}
use Rattle.catalogue_rules.proofs.Proper.{proper_linkable}

-- ---- the keys

keys_insert : (P : Key → Type 0) (rows : List Row) (key : Key) (r : KeptRecord) → AllByRecursion P (keys_of rows) → P key → AllByRecursion P (keys_of (insert_entry key_cmp rows key r))
keys_insert P [] key r a p = (p, tt)
keys_insert P (row ∷ rows) key r a p = at (key_cmp key row.0) (keys_insert P rows key r a.1 p)
  where
    at : (o : Ordering) → AllByRecursion P (keys_of (insert_entry key_cmp rows key r)) →
        AllByRecursion P (keys_of (match_ordering o ((key, r) ∷ row ∷ rows) ((row.0, r) ∷ rows) (row ∷ insert_entry key_cmp rows key r)))
    at Less b = (p, a)
    at Equal b = a
    at Greater b = (a.0, b)

keys_remove : (P : Key → Type 0) (test : Key → Bool) (rows : List Row) → AllByRecursion P (keys_of rows) → AllByRecursion P (keys_of (remove_entry test rows))
keys_remove P test [] a = tt
keys_remove P test (row ∷ rows) a = at (test row.0) (keys_remove P test rows a.1)
  where
    at : (b : Bool) → AllByRecursion P (keys_of (remove_entry test rows)) → AllByRecursion P (keys_of (cond b rows (row ∷ remove_entry test rows)))
    at true c = a.1
    at false c = (a.0, c)

above : (key : Key) (other : Key) → key_cmp key other ≡ Less → (keys : List Key) → AllByRecursion (λ y. key_cmp other y ≡ Less) keys → AllByRecursion (λ y. key_cmp key y ≡ Less) keys
above key other l [] a = tt
above key other l (k ∷ keys) a = (key_cmp_total.trans key other k l a.0, above key other l keys a.1)

ascend_insert_at : (row : Row) (rows : List Row) (key : Key) (r : KeptRecord) (o : Ordering) → key_cmp key row.0 ≡ o →
    AllByRecursion (λ y. key_cmp row.0 y ≡ Less) (keys_of rows) → IsStrictlySortedBy key_cmp (keys_of rows) → IsStrictlySortedBy key_cmp (keys_of (insert_entry key_cmp rows key r)) →
    IsStrictlySortedBy key_cmp (keys_of (match_ordering o ((key, r) ∷ row ∷ rows) ((row.0, r) ∷ rows) (row ∷ insert_entry key_cmp rows key r)))
unfolding IsStrictlySortedBy
ascend_insert_at row rows key r Less e below s ih = ((e, above key row.0 e (keys_of rows) below), (below, s))
ascend_insert_at row rows key r Equal e below s ih = (below, s)
ascend_insert_at row rows key r Greater e below s ih =
    let turned : key_cmp row.0 key ≡ Less = key_cmp_total.antisymm row.0 key ∙ ap ordering_reverse e in
    (keys_insert (λ y. key_cmp row.0 y ≡ Less) rows key r below turned, ih)

ascend_insert : (rows : List Row) (key : Key) (r : KeptRecord) → IsAscending rows → IsAscending (insert_entry key_cmp rows key r)
unfolding IsStrictlySortedBy
ascend_insert [] key r s = (tt, tt)
ascend_insert (row ∷ rows) key r s = ascend_insert_at row rows key r (key_cmp key row.0) refl s.0 s.1 (ascend_insert rows key r s.1)

ascend_remove : (test : Key → Bool) (rows : List Row) → IsAscending rows → IsAscending (remove_entry test rows)
unfolding IsStrictlySortedBy
ascend_remove test [] s = s
ascend_remove test (row ∷ rows) s = at (test row.0) (ascend_remove test rows s.1)
  where
    at : (b : Bool) → IsStrictlySortedBy key_cmp (keys_of (remove_entry test rows)) → IsStrictlySortedBy key_cmp (keys_of (cond b rows (row ∷ remove_entry test rows)))
    at true c = s.1
    at false c = (keys_remove (λ y. key_cmp row.0 y ≡ Less) test rows s.0, c)

-- the keys still ascend
pub ascend_place : (a : Arrival) (rows : List Row) → IsAscending rows → IsAscending (place a rows)
unfolding place
ascend_place a rows s = at (is_deletion a.leader)
  where
    at : (b : Bool) → IsAscending (if b then remove_entry (same_key a.key) rows else insert_entry key_cmp rows a.key (new_record a.leader a.fields))
    at true = ascend_remove (same_key a.key) rows s
    at false = ascend_insert rows a.key (new_record a.leader a.fields) s

keys_changed : (change : KeptField → KeptField) (rows : List Row) → keys_of (map (each_in_row change) rows) ≡ keys_of rows
keys_changed change [] = refl
keys_changed change (row ∷ rows) = rw (keys_changed change rows) refl

-- and they ascend where fields change
pub ascend_changed : (change : KeptField → KeptField) (rows : List Row) → IsAscending rows → IsAscending (map (each_in_row change) rows)
ascend_changed change rows s = rw (keys_changed change rows) s

-- ---- what holds of each row

each_insert_at : (P : Row → Type 0) (row : Row) (rows : List Row) (key : Key) (r : KeptRecord) (o : Ordering) → key_cmp key row.0 ≡ o → P (key, r) → P row → Each P rows →
    Each P (insert_entry key_cmp rows key r) → Each P (match_ordering o ((key, r) ∷ row ∷ rows) ((row.0, r) ∷ rows) (row ∷ insert_entry key_cmp rows key r))
each_insert_at P row rows key r Less e p q a ih = (p, (q, a))
each_insert_at P row rows key r Equal e p q a ih =
    let same : key ≡ row.0 = (key_Decides key row.0).0 (ap is_eq e) in
    let here : P (row.0, r) = rw (← same) p in
    (here, a)
each_insert_at P row rows key r Greater e p q a ih = (q, ih)

each_insert : (P : Row → Type 0) (rows : List Row) (key : Key) (r : KeptRecord) → P (key, r) → Each P rows → Each P (insert_entry key_cmp rows key r)
each_insert P [] key r p a = (p, tt)
each_insert P (row ∷ rows) key r p a = each_insert_at P row rows key r (key_cmp key row.0) refl p a.0 a.1 (each_insert P rows key r p a.1)

each_remove : (P : Row → Type 0) (test : Key → Bool) (rows : List Row) → Each P rows → Each P (remove_entry test rows)
each_remove P test [] a = tt
each_remove P test (row ∷ rows) a = at (test row.0) (each_remove P test rows a.1)
  where
    at : (b : Bool) → Each P (remove_entry test rows) → Each P (cond b rows (row ∷ remove_entry test rows))
    at true c = a.1
    at false c = (a.0, c)

-- what holds of each row and of the new one
pub each_place : (P : Row → Type 0) (a : Arrival) (rows : List Row) → P (a.key, new_record a.leader a.fields) → Each P rows → Each P (place a rows)
unfolding place
each_place P a rows p e = at (is_deletion a.leader)
  where
    at : (b : Bool) → Each P (if b then remove_entry (same_key a.key) rows else insert_entry key_cmp rows a.key (new_record a.leader a.fields))
    at true = each_remove P (same_key a.key) rows e
    at false = each_insert P rows a.key (new_record a.leader a.fields) p e

-- ---- other authorities

skip_at : (key : Key) (row : Row) (xs : List Linkable) (o : Option Linkable) → row_linkable row ≡ o → same_key key row.0 ≡ false → find (has_key key) (cons_option o xs) ≡ find (has_key key) xs
skip_at key row xs None e d = refl
skip_at key row xs (Some c) e d = let proper = proper_linkable row.0 (fields_of row.1) c e in rw (proper.key_is, d) refl

skip : (key : Key) (row : Row) (rows : List Row) → same_key key row.0 ≡ false → find (has_key key) (filter_map row_linkable (row ∷ rows)) ≡ find (has_key key) (filter_map row_linkable rows)
skip key row rows d = skip_at key row (filter_map row_linkable rows) (row_linkable row) refl d

behind_at : (key : Key) (o : Option Linkable) (xs ys : List Linkable) → find (has_key key) xs ≡ find (has_key key) ys → find (has_key key) (cons_option o xs) ≡ find (has_key key) (cons_option o ys)
behind_at key None xs ys e = e
behind_at key (Some c) xs ys e = ap (λ o. cond (has_key key c) (Some c) o) e

other_insert_at : (key own : Key) (row : Row) (rows : List Row) (r : KeptRecord) (o : Ordering) → key_cmp own row.0 ≡ o → same_key key own ≡ false →
    find (has_key key) (filter_map row_linkable (insert_entry key_cmp rows own r)) ≡ find (has_key key) (filter_map row_linkable rows) →
    find (has_key key) (filter_map row_linkable (match_ordering o ((own, r) ∷ row ∷ rows) ((row.0, r) ∷ rows) (row ∷ insert_entry key_cmp rows own r)))
    ≡ find (has_key key) (filter_map row_linkable (row ∷ rows))
other_insert_at key own row rows r Less e d ih = skip key (own, r) (row ∷ rows) d
other_insert_at key own row rows r Equal e d ih =
    let same : own ≡ row.0 = (key_Decides own row.0).0 (ap is_eq e) in
    let here : same_key key row.0 ≡ false = rw (← same) d in
    skip key (row.0, r) rows here ∙ sym (skip key row rows here)
other_insert_at key own row rows r Greater e d ih = behind_at key (row_linkable row) _ _ ih

other_insert : (key own : Key) (rows : List Row) (r : KeptRecord) → same_key key own ≡ false →
    find (has_key key) (filter_map row_linkable (insert_entry key_cmp rows own r)) ≡ find (has_key key) (filter_map row_linkable rows)
other_insert key own [] r d = skip key (own, r) [] d
other_insert key own (row ∷ rows) r d = other_insert_at key own row rows r (key_cmp own row.0) refl d (other_insert key own rows r d)

other_remove_at : (key own : Key) (row : Row) (rows : List Row) (b : Bool) → same_key own row.0 ≡ b → same_key key own ≡ false →
    find (has_key key) (filter_map row_linkable (remove_entry (same_key own) rows)) ≡ find (has_key key) (filter_map row_linkable rows) →
    find (has_key key) (filter_map row_linkable (cond b rows (row ∷ remove_entry (same_key own) rows))) ≡ find (has_key key) (filter_map row_linkable (row ∷ rows))
other_remove_at key own row rows true e d ih =
    let same : own ≡ row.0 = (key_Decides own row.0).0 e in
    let here : same_key key row.0 ≡ false = rw (← same) d in
    sym (skip key row rows here)
other_remove_at key own row rows false e d ih = behind_at key (row_linkable row) _ _ ih

other_remove : (key own : Key) (rows : List Row) → same_key key own ≡ false →
    find (has_key key) (filter_map row_linkable (remove_entry (same_key own) rows)) ≡ find (has_key key) (filter_map row_linkable rows)
other_remove key own [] d = refl
other_remove key own (row ∷ rows) d = other_remove_at key own row rows (same_key own row.0) refl d (other_remove key own rows d)

-- an authority with another key is found as before
pub other_place : (key : Key) (a : Arrival) (rows : List Row) → same_key a.key key ≡ false →
    find (has_key key) (filter_map row_linkable (place a rows)) ≡ find (has_key key) (filter_map row_linkable rows)
unfolding place
other_place key a rows d = at (is_deletion a.leader) ((eq_by_cmp_equiv key_cmp_total).symm key a.key ∙ d)
  where
    at : (b : Bool) → same_key key a.key ≡ false →
        find (has_key key) (filter_map row_linkable (if b then remove_entry (same_key a.key) rows else insert_entry key_cmp rows a.key (new_record a.leader a.fields))) ≡ find (has_key key) (filter_map row_linkable rows)
    at true e = other_remove key a.key rows e
    at false e = other_insert key a.key rows (new_record a.leader a.fields) e
