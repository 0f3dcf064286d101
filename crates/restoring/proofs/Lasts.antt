-- A row that comes last: it stands behind all others, it is found there, and an exchange of one of its fields changes it alone.
use Rattle.std.proofs.Common.{◌≡◌, ℕ, Bool, true, false, List, [], ◌∷◌, ◌++◌, map, Some, refl, sym, ap, subst, ◌∙◌, if◌then◌else◌}
use Rattle.std.specs.Prelude.{filter}
use Rattle.std.specs.List.{AllByRecursion}
use Rattle.std.specs.List.Sorted.{IsStrictlySortedBy}
use Rattle.std.specs.Map.{keys_of, lookup, remove_entry}
use Rattle.std.specs.BTreeMap.{insert_entry}
use Rattle.std.specs.Ordering.{ordering_reverse}
use Rattle.std.specs.declared.cmp.Ordering.TheVariants.{Less, Greater}
use Rattle.marc_types.specs.Order.{key_cmp, key_cmp_total, key_Decides, same_key}
use Rattle.marc_types.specs.declared.key.Class.{Class}
use Rattle.marc_types.specs.declared.key.Class.TheVariants.{Authority, Bibliographic}
use Rattle.marc_types.specs.declared.key.Key.{Key}
use Rattle.marc_types.specs.declared.entry.Entry.{Entry}
use Rattle.marc_types.specs.declared.record.Record.{Record}
use Rattle.entry_record.specs.Identity.{is_deletion}
use Rattle.entry_record.specs.Prepared.{kept_entry}
use Rattle.catalogue_rules.specs.State.{KeptField, KeptRecord, Row, State, new_record, rows_of}
use Rattle.catalogue_rules.specs.Receipt.{kept_under, same_class}
use Rattle.catalogue_rules.specs.Settle.{Arrival, place}
use Rattle.catalogue_rules.specs.Store.{with_field, with_field_under, with_rows}
use Rattle.linking_laws.specs.Commits.{placed_by}
use Rattle.linking_laws.specs.Partway.{swapped}
use Rattle.kept_rows.specs.declared.row.KeptRow.{KeptRow}
use Rattle.kept_rows.specs.Rows.{row_of, is_of, rows_in, state_of_rows, are_in_order}
use Rattle.kept_rows.proofs.Classes.{ordered_ascend}
use Rattle.restoring.specs.Feeding.{IsLastKey, with_last}

key_above : (key other : Key) → key_cmp other key ≡ Less → key_cmp key other ≡ Greater
key_above key other e = key_cmp_total.antisymm key other ∙ ap ordering_reverse e

same_itself : (key : Key) → same_key key key ≡ true
same_itself key = (key_Decides key key).1 refl

-- ---- it comes in

abbrev AreBefore : Key → List Row → Type 0
AreBefore key rows = AllByRecursion (λ row. key_cmp row.0 key ≡ Less) rows

insert_last : (rows : List Row) (key : Key) (r : KeptRecord) → AreBefore key rows → insert_entry key_cmp rows key r ≡ rows ++ (key, r) ∷ []
insert_last [] key r a = refl
insert_last (row ∷ rows) key r a = rw (key_above key row.0 a.0, insert_last rows key r a.1) refl

place_rows : (a : Arrival) (rows : List Row) → is_deletion a.leader ≡ false → AreBefore a.key rows → place a rows ≡ rows ++ (a.key, new_record a.leader a.fields) ∷ []
unfolding place
place_rows a rows living before =
    ap (λ (b : Bool). if b then remove_entry (same_key a.key) rows else insert_entry key_cmp rows a.key (new_record a.leader a.fields)) living
    ∙ insert_last rows a.key (new_record a.leader a.fields) before

-- a record that comes in stands last
pub place_last : (class : Class) (key : Key) (rec : Record) (s : State) → IsLastKey class key s → is_deletion rec.leader ≡ false →
    placed_by class s (kept_entry class key rec) ≡ with_last class (key, new_record rec.leader rec.fields) s
place_last Authority key rec s last living =
    ap (λ rows. with_rows Authority rows s) (place_rows (record { class = Authority; key = key; leader = rec.leader; fields = rec.fields }) s.authorities living last)
place_last Bibliographic key rec s last living =
    ap (λ rows. with_rows Bibliographic rows s) (place_rows (record { class = Bibliographic; key = key; leader = rec.leader; fields = rec.fields }) s.bibliographic living last)

-- the same behind the calls that put it in
pub placed_last : (class : Class) (key : Key) (rec made : Record) (e : Entry) (s t u : State) → t ≡ s → made ≡ rec → e ≡ kept_entry class key made →
    u ≡ placed_by e.class t e → IsLastKey class key s → is_deletion rec.leader ≡ false → u ≡ with_last class (key, new_record rec.leader rec.fields) s
placed_last class key rec made e s t u same is entry placed last living =
    placed ∙ ap (λ (x : Entry). placed_by x.class t x) entry ∙ ap (λ r. placed_by class t (kept_entry class key r)) is
    ∙ ap (λ x. placed_by class x (kept_entry class key rec)) same ∙ place_last class key rec s last living

-- ---- it is found

lookup_last : (key : Key) (rows : List Row) (r : KeptRecord) → AreBefore key rows → lookup (same_key key) (rows ++ (key, r) ∷ []) ≡ Some r
lookup_last key [] r a = rw (same_itself key) refl
lookup_last key (row ∷ rows) r a = rw (key_above key row.0 a.0) (lookup_last key rows r a.1)

pub record_last : (class : Class) (key : Key) (r : KeptRecord) (s : State) → IsLastKey class key s → kept_under class key (with_last class (key, r) s) ≡ Some r
record_last Authority key r s last = lookup_last key s.authorities r last
record_last Bibliographic key r s last = lookup_last key s.bibliographic r last

-- ---- one of its fields changes

swap_rows : (key : Key) (n : ℕ) (h : KeptField) (rows : List Row) (r : KeptRecord) → AreBefore key rows →
    with_field_under key n h (rows ++ (key, r) ∷ []) ≡ rows ++ (key, with_field n h r) ∷ []
swap_rows key n h [] r a = rw (same_itself key) refl
swap_rows key n h (row ∷ rows) r a = rw (key_above key row.0 a.0) (ap (λ rest. row ∷ rest) (swap_rows key n h rows r a.1))

pub swap_last : (class : Class) (key : Key) (n : ℕ) (h : KeptField) (r : KeptRecord) (s : State) → IsLastKey class key s →
    swapped (record { class = class; key = key; field = n }) h (with_last class (key, r) s) ≡ with_last class (key, with_field n h r) s
swap_last Authority key n h r s last = ap (λ rows. with_rows Authority rows s) (swap_rows key n h s.authorities r last)
swap_last Bibliographic key n h r s last = ap (λ rows. with_rows Bibliographic rows s) (swap_rows key n h s.bibliographic r last)

-- ---- rows in order come last, each in its turn

rows_front : (class : Class) (front rest : List KeptRow) → rows_in class (front ++ rest) ≡ rows_in class front ++ rows_in class rest
unfolding rows_in
rows_front class [] rest = refl
rows_front class (r ∷ front) rest = at (is_of class r) (rows_front class front rest)
  where
    at : (b : Bool) → map row_of (filter (is_of class) (front ++ rest)) ≡ map row_of (filter (is_of class) front) ++ map row_of (filter (is_of class) rest)
        → map row_of (if b then r ∷ filter (is_of class) (front ++ rest) else filter (is_of class) (front ++ rest))
        ≡ map row_of (if b then r ∷ filter (is_of class) front else filter (is_of class) front) ++ map row_of (filter (is_of class) rest)
    at true e = ap (λ rows. row_of r ∷ rows) e
    at false e = e

same_is : (class : Class) → same_class class class ≡ true
same_is Authority = refl
same_is Bibliographic = refl

own_first : (r : KeptRow) (rest : List KeptRow) → rows_in r.class (r ∷ rest) ≡ row_of r ∷ rows_in r.class rest
unfolding rows_in
own_first r rest = rw (same_is r.class) refl

below_middle : (key : Key) (xs : List Row) (row : Row) (ys : List Row) → AllByRecursion (λ y. key_cmp key y ≡ Less) (keys_of (xs ++ row ∷ ys)) → key_cmp key row.0 ≡ Less
below_middle key [] row ys a = a.0
below_middle key (x ∷ xs) row ys a = below_middle key xs row ys a.1

below_last : (xs : List Row) (row : Row) (ys : List Row) → IsStrictlySortedBy key_cmp (keys_of (xs ++ row ∷ ys)) → AreBefore row.0 xs
unfolding IsStrictlySortedBy
below_last [] row ys s = tt
below_last (x ∷ xs) row ys s = (below_middle x.0 xs row ys s.0, below_last xs row ys s.1)

rows_of_front : (class : Class) (front : List KeptRow) → rows_of class (state_of_rows front) ≡ rows_in class front
rows_of_front Authority front = refl
rows_of_front Bibliographic front = refl

pub next_last : (front : List KeptRow) (r : KeptRow) (rest : List KeptRow) → are_in_order (front ++ r ∷ rest) ≡ true → IsLastKey r.class r.key (state_of_rows front)
next_last front r rest order =
    let ascend = ordered_ascend r.class (front ++ r ∷ rest) order in
    let here = rows_front r.class front (r ∷ rest) ∙ ap (λ rows. rows_in r.class front ++ rows) (own_first r rest) in
    let before = below_last (rows_in r.class front) (row_of r) (rows_in r.class rest) (subst (λ rows. IsStrictlySortedBy key_cmp (keys_of rows)) here ascend) in
    subst (λ rows. AreBefore r.key rows) (sym (rows_of_front r.class front)) before

none_of : (class other : Class) (r : KeptRow) → r.class ≡ other → same_class other class ≡ false → rows_in class (r ∷ []) ≡ []
unfolding rows_in
none_of class other r e apart = rw (e, apart) refl

one_of : (class : Class) (r : KeptRow) → r.class ≡ class → rows_in class (r ∷ []) ≡ row_of r ∷ []
unfolding rows_in
one_of class r e = rw (e, same_is class) refl

pub nil_behind : {A : Type 0} (xs : List A) → xs ++ [] ≡ xs
nil_behind [] = refl
nil_behind (x ∷ xs) = ap (λ ys. x ∷ ys) (nil_behind xs)

-- the rows of a class with one more row that isn't of it, or that is
others_in : (class other : Class) (front : List KeptRow) (r : KeptRow) → r.class ≡ other → same_class other class ≡ false → rows_in class front ≡ rows_in class (front ++ r ∷ [])
others_in class other front r e apart =
    sym (rows_front class front (r ∷ []) ∙ ap (λ rows. rows_in class front ++ rows) (none_of class other r e apart) ∙ nil_behind (rows_in class front))

own_in : (class : Class) (front : List KeptRow) (r : KeptRow) → r.class ≡ class → rows_in class front ++ row_of r ∷ [] ≡ rows_in class (front ++ r ∷ [])
own_in class front r e = sym (rows_front class front (r ∷ []) ∙ ap (λ rows. rows_in class front ++ rows) (one_of class r e))

same_state : (s t : State) → s.authorities ≡ t.authorities → s.bibliographic ≡ t.bibliographic → s ≡ t
same_state s t first second = λ i. record { authorities = first i; bibliographic = second i }

-- the state of rows with one more
pub state_more : (front : List KeptRow) (r : KeptRow) → with_last r.class (row_of r) (state_of_rows front) ≡ state_of_rows (front ++ r ∷ [])
state_more front r = at r.class refl
  where
    at : (class : Class) → r.class ≡ class → with_last class (row_of r) (state_of_rows front) ≡ state_of_rows (front ++ r ∷ [])
    at Authority e = same_state (with_last Authority (row_of r) (state_of_rows front)) (state_of_rows (front ++ r ∷ [])) (own_in Authority front r e) (others_in Bibliographic Authority front r e refl)
    at Bibliographic e = same_state (with_last Bibliographic (row_of r) (state_of_rows front)) (state_of_rows (front ++ r ∷ [])) (others_in Authority Bibliographic front r e refl) (own_in Bibliographic front r e)
