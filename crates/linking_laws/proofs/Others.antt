-- A record comes into its place: the authorities under other keys stay, and what holds of the other rows still holds.
use Rattle.std.proofs.Common.{◌≡◌, Bool, true, false, ◌&&◌, ◌||◌, not, cond, List, [], ◌∷◌, Option, Some, None, is_some, refl, sym, ap, ◌∙◌, subst, if◌then◌else◌}
use Rattle.std.specs.Prelude.{◌==◌, find, filter_map}
use Rattle.std.specs.List.{AllByRecursion, cons_option}
use Rattle.std.specs.Map.{keys_of, remove_entry}
use Rattle.std.specs.BTreeMap.{insert_entry}
use Rattle.std.specs.Ordering.{is_eq, match_ordering}
use Rattle.std.specs.declared.cmp.Ordering.{Ordering}
use Rattle.std.specs.declared.cmp.Ordering.TheVariants.{Less, Equal, Greater}
use Rattle.std.proofs.lemmas.Map.Keys.{sorted_head, sorted_tail}
use Rattle.marc_types.specs.Order.{key_cmp, key_cmp_total, key_Decides}
use Rattle.marc_types.specs.declared.field.Field.{Field}
use Rattle.marc_types.specs.declared.field.Leader.{Leader}
use Rattle.marc_types.specs.declared.key.Class.TheVariants.{Authority}
use Rattle.marc_types.specs.declared.key.Key.{Key}
use Rattle.entry_record.specs.Identity.{is_deletion}
use Rattle.marc_types.specs.Order.{same_key}
use Rattle.entry_record.specs.Authority.{Linkable, option_filter, replacement_key, successor_of}
use Rattle.catalogue_rules.specs.State.{KeptRecord, Row, State, linkable_authorities, fields_of, new_record, row_linkable}
use Rattle.catalogue_rules.specs.Choice.{has_key}
use Rattle.catalogue_rules.specs.Settle.{Arrival, place}
use Rattle.catalogue_rules.specs.Valid.{IsAscending}
use Rattle.catalogue_rules.proofs.Elements.{Each}
use Rattle.catalogue_rules.proofs.Proper.{proper_linkable}
use Rattle.linking_laws.specs.Behind.{placed_in}
use Rattle.linking_laws.specs.Waiting.{others_of}

pub own_key : (key : Key) → same_key key key ≡ true
own_key key = (key_Decides key key).1 refl

-- ---- the authorities under other keys

others_skip : (key : Key) (row : Row) (xs : List Linkable) (o : Option Linkable) → row_linkable row ≡ o → same_key key row.0 ≡ true → others_of key (cons_option o xs) ≡ others_of key xs
others_skip key row xs None e d = refl
others_skip key row xs (Some c) e d =
    let proper = proper_linkable row.0 (fields_of row.1) c e in
    ap (λ (b : Bool). cond (not b) (c ∷ others_of key xs) (others_of key xs)) (ap (same_key key) proper.key_is ∙ d)

others_behind : (key : Key) (o : Option Linkable) (xs ys : List Linkable) → others_of key xs ≡ others_of key ys → others_of key (cons_option o xs) ≡ others_of key (cons_option o ys)
others_behind key None xs ys e = e
others_behind key (Some c) xs ys e = ap (λ l. cond (not (has_key key c)) (c ∷ l) l) e

others_insert_at : (key : Key) (r : KeptRecord) (o : Ordering) (row : Row) (rows more : List Row) → key_cmp key row.0 ≡ o →
    others_of key (filter_map row_linkable more) ≡ others_of key (filter_map row_linkable rows) →
    others_of key (filter_map row_linkable (match_ordering o ((key, r) ∷ row ∷ rows) ((row.0, r) ∷ rows) (row ∷ more))) ≡ others_of key (filter_map row_linkable (row ∷ rows))
others_insert_at key r Less row rows more e is = others_skip key (key, r) (filter_map row_linkable (row ∷ rows)) (row_linkable (key, r)) refl (own_key key)
others_insert_at key r Equal row rows more e is =
    let same : same_key key row.0 ≡ true = ap is_eq e in
    others_skip key (row.0, r) (filter_map row_linkable rows) (row_linkable (row.0, r)) refl same
    ∙ sym (others_skip key row (filter_map row_linkable rows) (row_linkable row) refl same)
others_insert_at key r Greater row rows more e is = others_behind key (row_linkable row) (filter_map row_linkable more) (filter_map row_linkable rows) is

others_insert : (key : Key) (r : KeptRecord) (rows : List Row) → others_of key (filter_map row_linkable (insert_entry key_cmp rows key r)) ≡ others_of key (filter_map row_linkable rows)
others_insert key r [] = others_skip key (key, r) [] (row_linkable (key, r)) refl (own_key key)
others_insert key r (row ∷ rows) = others_insert_at key r (key_cmp key row.0) row rows (insert_entry key_cmp rows key r) refl (others_insert key r rows)

others_remove_at : (key : Key) (b : Bool) (row : Row) (rows more : List Row) → same_key key row.0 ≡ b → others_of key (filter_map row_linkable more) ≡ others_of key (filter_map row_linkable rows) →
    others_of key (filter_map row_linkable (cond b rows (row ∷ more))) ≡ others_of key (filter_map row_linkable (row ∷ rows))
others_remove_at key true row rows more e is = sym (others_skip key row (filter_map row_linkable rows) (row_linkable row) refl e)
others_remove_at key false row rows more e is = others_behind key (row_linkable row) (filter_map row_linkable more) (filter_map row_linkable rows) is

others_remove : (key : Key) (rows : List Row) → others_of key (filter_map row_linkable (remove_entry (same_key key) rows)) ≡ others_of key (filter_map row_linkable rows)
others_remove key [] = refl
others_remove key (row ∷ rows) = others_remove_at key (same_key key row.0) row rows (remove_entry (same_key key) rows) refl (others_remove key rows)

-- the authorities under other keys are the same, whatever comes into the key's place
pub others_place : (a : Arrival) (rows : List Row) → others_of a.key (filter_map row_linkable rows) ≡ others_of a.key (filter_map row_linkable (place a rows))
unfolding place
others_place a rows = sym (at (is_deletion a.leader))
  where
    at : (b : Bool) → others_of a.key (filter_map row_linkable (if b then remove_entry (same_key a.key) rows else insert_entry key_cmp rows a.key (new_record a.leader a.fields)))
        ≡ others_of a.key (filter_map row_linkable rows)
    at true = others_remove a.key rows
    at false = others_insert a.key (new_record a.leader a.fields) rows

-- ---- the other rows

pub above : (key : Key) (other : Key) → key_cmp key other ≡ Less → (keys : List Key) → AllByRecursion (λ y. key_cmp other y ≡ Less) keys → AllByRecursion (λ y. key_cmp key y ≡ Less) keys
above key other l [] a = tt
above key other l (k ∷ keys) a = (key_cmp_total.trans key other k l a.0, above key other l keys a.1)

apart_above : (P : Row → Type 0) (key : Key) (rows : List Row) → AllByRecursion (λ y. key_cmp key y ≡ Less) (keys_of rows) → Each (λ (row : Row). same_key key row.0 ≡ false → P row) rows → Each P rows
apart_above P key [] b a = tt
apart_above P key (row ∷ rows) b a = (a.0 (ap is_eq b.0), apart_above P key rows b.1 a.1)

pub below_equal : (key own : Key) (keys : List Key) → key ≡ own → AllByRecursion (λ y. key_cmp own y ≡ Less) keys → AllByRecursion (λ y. key_cmp key y ≡ Less) keys
below_equal key own keys e a = subst (λ (k : Key). AllByRecursion (λ y. key_cmp k y ≡ Less) keys) (sym e) a

each_insert_at : (P : Row → Type 0) (key : Key) (r : KeptRecord) (o : Ordering) (row : Row) (rows more : List Row) → key_cmp key row.0 ≡ o → P (key, r) →
    AllByRecursion (λ y. key_cmp row.0 y ≡ Less) (keys_of rows) → Each (λ (x : Row). same_key key x.0 ≡ false → P x) (row ∷ rows) → Each P more →
    Each P (match_ordering o ((key, r) ∷ row ∷ rows) ((row.0, r) ∷ rows) (row ∷ more))
each_insert_at P key r Less row rows more e p b a m = (p, (a.0 (ap is_eq e), apart_above P key rows (above key row.0 e (keys_of rows) b) a.1))
each_insert_at P key r Equal row rows more e p b a m =
    let same : key ≡ row.0 = (key_Decides key row.0).0 (ap is_eq e) in
    (subst (λ (k : Key). P (k, r)) same p, apart_above P key rows (below_equal key row.0 (keys_of rows) same b) a.1)
each_insert_at P key r Greater row rows more e p b a m = (a.0 (ap is_eq e), m)

each_insert : (P : Row → Type 0) (key : Key) (r : KeptRecord) (rows : List Row) → P (key, r) → IsAscending rows → Each (λ (x : Row). same_key key x.0 ≡ false → P x) rows →
    Each P (insert_entry key_cmp rows key r)
each_insert P key r [] p s a = (p, tt)
each_insert P key r (row ∷ rows) p s a =
    each_insert_at P key r (key_cmp key row.0) row rows (insert_entry key_cmp rows key r) refl p (sorted_head key_cmp row.0 (keys_of rows) s) a
    (each_insert P key r rows p (sorted_tail key_cmp row.0 (keys_of rows) s) a.1)

each_remove_at : (P : Row → Type 0) (key : Key) (b : Bool) (row : Row) (rows more : List Row) → same_key key row.0 ≡ b →
    AllByRecursion (λ y. key_cmp row.0 y ≡ Less) (keys_of rows) → Each (λ (x : Row). same_key key x.0 ≡ false → P x) (row ∷ rows) → Each P more → Each P (cond b rows (row ∷ more))
each_remove_at P key true row rows more e b a m = apart_above P key rows (below_equal key row.0 (keys_of rows) ((key_Decides key row.0).0 e) b) a.1
each_remove_at P key false row rows more e b a m = (a.0 e, m)

each_remove : (P : Row → Type 0) (key : Key) (rows : List Row) → IsAscending rows → Each (λ (x : Row). same_key key x.0 ≡ false → P x) rows → Each P (remove_entry (same_key key) rows)
each_remove P key [] s a = tt
each_remove P key (row ∷ rows) s a =
    each_remove_at P key (same_key key row.0) row rows (remove_entry (same_key key) rows) refl (sorted_head key_cmp row.0 (keys_of rows) s) a
    (each_remove P key rows (sorted_tail key_cmp row.0 (keys_of rows) s) a.1)

-- what holds of the new row and of each under another key holds of each once the record is in its place
pub each_placed : (P : Row → Type 0) (a : Arrival) (rows : List Row) → P (a.key, new_record a.leader a.fields) → IsAscending rows →
    Each (λ (x : Row). same_key a.key x.0 ≡ false → P x) rows → Each P (place a rows)
unfolding place
each_placed P a rows p s e = at (is_deletion a.leader)
  where
    at : (b : Bool) → Each P (if b then remove_entry (same_key a.key) rows else insert_entry key_cmp rows a.key (new_record a.leader a.fields))
    at true = each_remove P a.key rows s e
    at false = each_insert P a.key (new_record a.leader a.fields) rows p s e

-- ---- a successor comes with a deletion

find_skip_at : (key : Key) (row : Row) (xs : List Linkable) (o : Option Linkable) → row_linkable row ≡ o → same_key key row.0 ≡ false → find (has_key key) (cons_option o xs) ≡ find (has_key key) xs
find_skip_at key row xs None e d = refl
find_skip_at key row xs (Some c) e d =
    let proper = proper_linkable row.0 (fields_of row.1) c e in
    ap (λ (b : Bool). cond b (Some c) (find (has_key key) xs)) (ap (same_key key) proper.key_is ∙ d)

find_above : (key : Key) (rows : List Row) → AllByRecursion (λ y. key_cmp key y ≡ Less) (keys_of rows) → find (has_key key) (filter_map row_linkable rows) ≡ None
find_above key [] b = refl
find_above key (row ∷ rows) b = find_skip_at key row (filter_map row_linkable rows) (row_linkable row) refl (ap is_eq b.0) ∙ find_above key rows b.1

find_removed_at : (key : Key) (b : Bool) (row : Row) (rows more : List Row) → same_key key row.0 ≡ b → AllByRecursion (λ y. key_cmp row.0 y ≡ Less) (keys_of rows) →
    find (has_key key) (filter_map row_linkable more) ≡ None → find (has_key key) (filter_map row_linkable (cond b rows (row ∷ more))) ≡ None
find_removed_at key true row rows more e b is = find_above key rows (below_equal key row.0 (keys_of rows) ((key_Decides key row.0).0 e) b)
find_removed_at key false row rows more e b is = find_skip_at key row (filter_map row_linkable more) (row_linkable row) refl e ∙ is

find_removed : (key : Key) (rows : List Row) → IsAscending rows → find (has_key key) (filter_map row_linkable (remove_entry (same_key key) rows)) ≡ None
find_removed key [] s = refl
find_removed key (row ∷ rows) s =
    find_removed_at key (same_key key row.0) row rows (remove_entry (same_key key) rows) refl (sorted_head key_cmp row.0 (keys_of rows) s)
    (find_removed key rows (sorted_tail key_cmp row.0 (keys_of rows) s))

deletes_at : (z x d s : Bool) (o : Option Key) → is_some (if z && x then o else None) ≡ true → (d || (z && (s || x))) ≡ true
deletes_at true true true s o e = refl
deletes_at true true false true o e = refl
deletes_at true true false false o e = refl
deletes_at true false d s o e = cc
deletes_at false x d s o e = cc

-- an entry with a successor is a deletion
pub successor_deletes : (l : Leader) (own : Key) (fields : List Field) → is_some (successor_of l own fields) ≡ true → is_deletion l ≡ true
unfolding successor_of
successor_deletes l own fields e =
    deletes_at (l.rtype == 122) (l.status == 120) (l.status == 100) (l.status == 115) (option_filter (λ key. not (same_key own key)) (replacement_key fields)) e

gone_at : (a : Arrival) (rows : List Row) (b : Bool) → b ≡ true → IsAscending rows →
    find (has_key a.key) (filter_map row_linkable (if b then remove_entry (same_key a.key) rows else insert_entry key_cmp rows a.key (new_record a.leader a.fields))) ≡ None
gone_at a rows true e s = find_removed a.key rows s
gone_at a rows false e s = cc

pub successor_gone : (a : Arrival) (rows : List Row) → IsAscending rows → is_some (successor_of a.leader a.key a.fields) ≡ true → find (has_key a.key) (filter_map row_linkable (place a rows)) ≡ None
unfolding place
successor_gone a rows s e = gone_at a rows (is_deletion a.leader) (successor_deletes a.leader a.key a.fields e) s

pub others_behind_commit : (a : Arrival) (s : State) → others_of a.key (linkable_authorities s) ≡ others_of a.key (linkable_authorities (placed_in Authority a s))
others_behind_commit a s = others_place a s.authorities
