-- A row comes into its key's place, or is taken from it, in a part as in the whole.
use Rattle.std.proofs.Common.{◌≡◌, Bool, true, false, cond, List, [], ◌∷◌, refl, sym, ap, ◌∙◌, if◌then◌else◌}
use Rattle.std.specs.List.Sorted.{IsStrictlySortedBy}
use Rattle.std.specs.List.{AllByRecursion}
use Rattle.std.specs.Map.{keys_of, remove_entry}
use Rattle.std.specs.BTreeMap.{insert_entry}
use Rattle.std.specs.Ordering.{is_eq, match_ordering}
use Rattle.std.specs.declared.cmp.Ordering.{Ordering}
use Rattle.std.specs.declared.cmp.Ordering.TheVariants.{Less, Equal, Greater}
use Rattle.marc_types.specs.Order.{key_cmp, key_cmp_total, key_Decides, same_key}
use Rattle.marc_types.specs.declared.key.Key.{Key}
use Rattle.entry_record.specs.Identity.{is_deletion}
use Rattle.catalogue_rules.specs.State.{KeptRecord, Row, new_record}
use Rattle.catalogue_rules.specs.Settle.{Arrival, place}
use Rattle.catalogue_rules.specs.Valid.{IsAscending}
use Rattle.catalogue_parts.specs.Parts.{Part, rows_in}

-- ---- rows of a part ascend

pub keys_in : (P : Key → Type 0) (mine : Part) (rows : List Row) → AllByRecursion P (keys_of rows) → AllByRecursion P (keys_of (rows_in mine rows))
keys_in P mine [] a = tt
keys_in P mine (row ∷ rows) a = at (mine row.0) (keys_in P mine rows a.1)
  where
    at : (b : Bool) → AllByRecursion P (keys_of (rows_in mine rows)) → AllByRecursion P (keys_of (cond b (row ∷ rows_in mine rows) (rows_in mine rows)))
    at true rest = (a.0, rest)
    at false rest = rest

pub ascend_in : (mine : Part) (rows : List Row) → IsAscending rows → IsAscending (rows_in mine rows)
unfolding IsStrictlySortedBy
ascend_in mine [] s = s
ascend_in mine (row ∷ rows) s = at (mine row.0) (ascend_in mine rows s.1)
  where
    at : (b : Bool) → IsAscending (rows_in mine rows) → IsAscending (cond b (row ∷ rows_in mine rows) (rows_in mine rows))
    at true rest = (keys_in (λ y. key_cmp row.0 y ≡ Less) mine rows s.0, rest)
    at false rest = rest

-- ---- a row of the part's own

-- a key that comes before all others
insert_first : (key : Key) (r : KeptRecord) (rows : List Row) → AllByRecursion (λ y. key_cmp key y ≡ Less) (keys_of rows) → insert_entry key_cmp rows key r ≡ (key, r) ∷ rows
insert_first key r [] below = refl
insert_first key r (row ∷ rows) below = ap (λ o. match_ordering o ((key, r) ∷ row ∷ rows) ((row.0, r) ∷ rows) (row ∷ insert_entry key_cmp rows key r)) below.0

below_all : (key : Key) (row : Row) (rows : List Row) → key_cmp key row.0 ≡ Less → AllByRecursion (λ y. key_cmp row.0 y ≡ Less) (keys_of rows) →
    AllByRecursion (λ y. key_cmp key y ≡ Less) (keys_of rows)
below_all key row [] less below = tt
below_all key row (other ∷ rows) less below = (key_cmp_total.trans key row.0 other.0 less below.0, below_all key row rows less below.1)

-- the part's rows behind a row: where that is the part's own, with it in front
abbrev with_own : Bool → Row → List Row → List Row
with_own own row rows = cond own (row ∷ rows) rows

insert_less : (mine : Part) (key : Key) (r : KeptRecord) (row : Row) (rows : List Row) (own : Bool) → key_cmp key row.0 ≡ Less →
    AllByRecursion (λ y. key_cmp row.0 y ≡ Less) (keys_of rows) →
    insert_entry key_cmp (with_own own row (rows_in mine rows)) key r ≡ (key, r) ∷ with_own own row (rows_in mine rows)
insert_less mine key r row rows own less below =
    let rest = keys_in (λ y. key_cmp key y ≡ Less) mine rows (below_all key row rows less below) in
    at own rest
  where
    at : (b : Bool) → AllByRecursion (λ y. key_cmp key y ≡ Less) (keys_of (rows_in mine rows)) →
        insert_entry key_cmp (with_own b row (rows_in mine rows)) key r ≡ (key, r) ∷ with_own b row (rows_in mine rows)
    at true rest = insert_first key r (row ∷ rows_in mine rows) (less, rest)
    at false rest = insert_first key r (rows_in mine rows) rest

insert_greater : (key : Key) (r : KeptRecord) (row : Row) (rows : List Row) (own : Bool) → key_cmp key row.0 ≡ Greater →
    with_own own row (insert_entry key_cmp rows key r) ≡ insert_entry key_cmp (with_own own row rows) key r
insert_greater key r row rows true greater =
    sym (ap (λ o. match_ordering o ((key, r) ∷ row ∷ rows) ((row.0, r) ∷ rows) (row ∷ insert_entry key_cmp rows key r)) greater)
insert_greater key r row rows false greater = refl

own_insert_at : (mine : Part) (key : Key) (r : KeptRecord) (row : Row) (rows : List Row) (o : Ordering) → key_cmp key row.0 ≡ o → mine key ≡ true →
    AllByRecursion (λ y. key_cmp row.0 y ≡ Less) (keys_of rows) → rows_in mine (insert_entry key_cmp rows key r) ≡ insert_entry key_cmp (rows_in mine rows) key r →
    rows_in mine (match_ordering o ((key, r) ∷ row ∷ rows) ((row.0, r) ∷ rows) (row ∷ insert_entry key_cmp rows key r)) ≡ insert_entry key_cmp (rows_in mine (row ∷ rows)) key r
own_insert_at mine key r row rows Less e own below ih = ap (λ b. with_own b (key, r) (rows_in mine (row ∷ rows))) own ∙ sym (insert_less mine key r row rows (mine row.0) e below)
own_insert_at mine key r row rows Equal e own below ih =
    let same : key ≡ row.0 = (key_Decides key row.0).0 (ap is_eq e) in
    let here : mine row.0 ≡ true = ap mine (sym same) ∙ own in
    let put = ap (λ o. match_ordering o ((key, r) ∷ row ∷ rows_in mine rows) ((row.0, r) ∷ rows_in mine rows) (row ∷ insert_entry key_cmp (rows_in mine rows) key r)) e in
    ap (λ b. with_own b (row.0, r) (rows_in mine rows)) here ∙ sym put ∙ ap (λ b. insert_entry key_cmp (with_own b row (rows_in mine rows)) key r) (sym here)
own_insert_at mine key r row rows Greater e own below ih = ap (λ l. with_own (mine row.0) row l) ih ∙ insert_greater key r row (rows_in mine rows) (mine row.0) e

own_insert : (mine : Part) (key : Key) (r : KeptRecord) (rows : List Row) → mine key ≡ true → IsAscending rows →
    rows_in mine (insert_entry key_cmp rows key r) ≡ insert_entry key_cmp (rows_in mine rows) key r
unfolding IsStrictlySortedBy
own_insert mine key r [] own s = ap (λ b. with_own b (key, r) []) own
own_insert mine key r (row ∷ rows) own s = own_insert_at mine key r row rows (key_cmp key row.0) refl own s.0 (own_insert mine key r rows own s.1)

remove_later : (key : Key) (row : Row) (rows : List Row) (own : Bool) → same_key key row.0 ≡ false →
    with_own own row (remove_entry (same_key key) rows) ≡ remove_entry (same_key key) (with_own own row rows)
remove_later key row rows true other = sym (ap (λ b. cond b rows (row ∷ remove_entry (same_key key) rows)) other)
remove_later key row rows false other = refl

own_remove_at : (mine : Part) (key : Key) (row : Row) (rows : List Row) (b : Bool) → same_key key row.0 ≡ b → mine key ≡ true →
    rows_in mine (remove_entry (same_key key) rows) ≡ remove_entry (same_key key) (rows_in mine rows) →
    rows_in mine (cond b rows (row ∷ remove_entry (same_key key) rows)) ≡ remove_entry (same_key key) (rows_in mine (row ∷ rows))
own_remove_at mine key row rows true e own ih =
    let same : key ≡ row.0 = (key_Decides key row.0).0 e in
    let here : mine row.0 ≡ true = ap mine (sym same) ∙ own in
    sym (ap (λ b. remove_entry (same_key key) (with_own b row (rows_in mine rows))) here ∙ ap (λ b. cond b (rows_in mine rows) (row ∷ remove_entry (same_key key) (rows_in mine rows))) e)
own_remove_at mine key row rows false e own ih = ap (λ l. with_own (mine row.0) row l) ih ∙ remove_later key row (rows_in mine rows) (mine row.0) e

own_remove : (mine : Part) (key : Key) (rows : List Row) → mine key ≡ true →
    rows_in mine (remove_entry (same_key key) rows) ≡ remove_entry (same_key key) (rows_in mine rows)
own_remove mine key [] own = refl
own_remove mine key (row ∷ rows) own = own_remove_at mine key row rows (same_key key row.0) refl own (own_remove mine key rows own)

-- what comes to the part does in it what it does in the whole
pub own_placed : (mine : Part) (a : Arrival) (rows : List Row) → mine a.key ≡ true → IsAscending rows → rows_in mine (place a rows) ≡ place a (rows_in mine rows)
unfolding place
own_placed mine a rows own s = at (is_deletion a.leader)
  where
    at : (b : Bool) → rows_in mine (if b then remove_entry (same_key a.key) rows else insert_entry key_cmp rows a.key (new_record a.leader a.fields))
        ≡ (if b then remove_entry (same_key a.key) (rows_in mine rows) else insert_entry key_cmp (rows_in mine rows) a.key (new_record a.leader a.fields))
    at true = own_remove mine a.key rows own
    at false = own_insert mine a.key (new_record a.leader a.fields) rows own s

-- ---- a row of another part

other_insert_at : (mine : Part) (key : Key) (r : KeptRecord) (row : Row) (rows : List Row) (o : Ordering) → key_cmp key row.0 ≡ o → mine key ≡ false →
    rows_in mine (insert_entry key_cmp rows key r) ≡ rows_in mine rows →
    rows_in mine (match_ordering o ((key, r) ∷ row ∷ rows) ((row.0, r) ∷ rows) (row ∷ insert_entry key_cmp rows key r)) ≡ rows_in mine (row ∷ rows)
other_insert_at mine key r row rows Less e other ih = ap (λ b. with_own b (key, r) (rows_in mine (row ∷ rows))) other
other_insert_at mine key r row rows Equal e other ih =
    let same : key ≡ row.0 = (key_Decides key row.0).0 (ap is_eq e) in
    let here : mine row.0 ≡ false = ap mine (sym same) ∙ other in
    ap (λ b. with_own b (row.0, r) (rows_in mine rows)) here ∙ sym (ap (λ b. with_own b row (rows_in mine rows)) here)
other_insert_at mine key r row rows Greater e other ih = ap (λ l. with_own (mine row.0) row l) ih

other_insert : (mine : Part) (key : Key) (r : KeptRecord) (rows : List Row) → mine key ≡ false → rows_in mine (insert_entry key_cmp rows key r) ≡ rows_in mine rows
other_insert mine key r [] other = ap (λ b. with_own b (key, r) []) other
other_insert mine key r (row ∷ rows) other = other_insert_at mine key r row rows (key_cmp key row.0) refl other (other_insert mine key r rows other)

other_remove_at : (mine : Part) (key : Key) (row : Row) (rows : List Row) (b : Bool) → same_key key row.0 ≡ b → mine key ≡ false →
    rows_in mine (remove_entry (same_key key) rows) ≡ rows_in mine rows →
    rows_in mine (cond b rows (row ∷ remove_entry (same_key key) rows)) ≡ rows_in mine (row ∷ rows)
other_remove_at mine key row rows true e other ih =
    let same : key ≡ row.0 = (key_Decides key row.0).0 e in
    let here : mine row.0 ≡ false = ap mine (sym same) ∙ other in
    sym (ap (λ b. with_own b row (rows_in mine rows)) here)
other_remove_at mine key row rows false e other ih = ap (λ l. with_own (mine row.0) row l) ih

other_remove : (mine : Part) (key : Key) (rows : List Row) → mine key ≡ false → rows_in mine (remove_entry (same_key key) rows) ≡ rows_in mine rows
other_remove mine key [] other = refl
other_remove mine key (row ∷ rows) other = other_remove_at mine key row rows (same_key key row.0) refl other (other_remove mine key rows other)

-- what comes to another part does nothing in this one
pub other_placed : (mine : Part) (a : Arrival) (rows : List Row) → mine a.key ≡ false → rows_in mine (place a rows) ≡ rows_in mine rows
unfolding place
other_placed mine a rows other = at (is_deletion a.leader)
  where
    at : (b : Bool) → rows_in mine (if b then remove_entry (same_key a.key) rows else insert_entry key_cmp rows a.key (new_record a.leader a.fields)) ≡ rows_in mine rows
    at true = other_remove mine a.key rows other
    at false = other_insert mine a.key (new_record a.leader a.fields) rows other
