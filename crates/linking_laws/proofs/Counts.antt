-- The numbers of a receipt, from the records that differ and from the committed record's own fields.
use Rattle.std.proofs.Common.{◌≡◌, ℕ, zero, suc, ◌+◌, Bool, true, false, ◌&&◌, ◌||◌, not, cond, List, [], ◌∷◌, map, length, Option, Some, None, refl, sym, ap, ◌∙◌, if◌then◌else◌, arith}
use Rattle.std.specs.Prelude.{slice_get}
use Rattle.std.specs.List.{AllByRecursion, count_by}
use Rattle.std.specs.Map.{keys_of, lookup, remove_entry}
use Rattle.std.specs.BTreeMap.{insert_entry}
use Rattle.std.specs.Option.{is_some, option_map, option_map_or, option_and_then}
use Rattle.std.specs.Ordering.{is_eq, match_ordering}
use Rattle.std.specs.declared.cmp.Ordering.{Ordering}
use Rattle.std.specs.declared.cmp.Ordering.TheVariants.{Less, Equal, Greater}
use Rattle.std.specs.Cmp.Lexicographic.{pointwise}
use Rattle.std.proofs.lemmas.List.Sums.{sum_by-cons}
use Rattle.std.proofs.lemmas.Map.Keys.{sorted_head, sorted_tail}
use Rattle.std.proofs.lemmas.Map.Made.{lookup-map_values}
use Rattle.marc_types.specs.Order.{key_cmp, key_Decides}
use Rattle.marc_types.specs.declared.field.Field.{Field}
use Rattle.marc_types.specs.declared.field.Leader.{Leader}
use Rattle.marc_types.specs.declared.key.Class.{Class}
use Rattle.marc_types.specs.declared.key.Class.TheVariants.{Authority, Bibliographic}
use Rattle.marc_types.specs.declared.key.Key.{Key}
use Rattle.marc_types.specs.declared.entry.Entry.{Entry}
use Rattle.entry_record.specs.Identity.{is_deletion}
use Rattle.marc_types.specs.Order.{same_key}
use Rattle.entry_record.specs.Authority.{Linkable}
use Rattle.catalogue_rules.specs.State.{KeptField, KeptRecord, Row, State, rows_of, new_record, linkable_authorities, new_field}
use Rattle.catalogue_rules.specs.Settle.{Arrival, place, settle_field, step, loosen}
use Rattle.catalogue_rules.specs.Settle.{arrival_of}
use Rattle.catalogue_rules.specs.Receipt.{kept_under, same_class, is_committed, differs, is_changed_row, changed_in, receipt_of, Standing, is_linked, is_ambiguous, is_unlinked, standing_of, count_standing}
use Rattle.catalogue_rules.specs.Sameness.{same_kept}
use Rattle.catalogue_rules.specs.Valid.{IsAscending, IsValid}
use Rattle.catalogue_rules.proofs.Elements.{Each, each_weaker}
use Rattle.catalogue_rules.proofs.Places.{IsBelow, lookup_below}
use Rattle.catalogue_rules.specs.Store.{field_at, field_under}
use Rattle.linking_laws.specs.Behind.{placed_in, placed, ended_by, loosened_by, record_behind, state_behind}
use Rattle.linking_laws.specs.Commits.{CanBeCommitted}
use Rattle.linking_laws.specs.Receipts.{is_key_among, AreDistinct, IsExchanged, place_in, AreChanged, AreChangedBy, AreOwnCounts, receipt_by, count_fields, StayKept, count_own}
use Rattle.linking_laws.proofs.Commits.{step_behind, step_valid, step_linkables}
use Rattle.linking_laws.proofs.Heart.{other_key}
use Rattle.linking_laws.proofs.Others.{own_key, below_equal}

-- ---- fields that differ

-- two lists of one length that differ have a place where they do
record HasGap (xs ys : List KeptField) : Type 0 where
  at : ℕ
  old : KeptField
  new : KeptField
  stood : slice_get xs at ≡ Some old
  stands : slice_get ys at ≡ Some new
  apart : same_kept old new ≡ false

gap_behind : (x y : KeptField) (xs ys : List KeptField) → HasGap xs ys → HasGap (x ∷ xs) (y ∷ ys)
gap_behind x y xs ys g = record { at = suc g.at; old = g.old; new = g.new; stood = g.stood; stands = g.stands; apart = g.apart }

gap_at : (x y : KeptField) (xs ys : List KeptField) (b : Bool) → same_kept x y ≡ b → (pointwise same_kept xs ys ≡ false → HasGap xs ys) → (b && pointwise same_kept xs ys) ≡ false →
    HasGap (x ∷ xs) (y ∷ ys)
gap_at x y xs ys true e more off = gap_behind x y xs ys (more off)
gap_at x y xs ys false e more off = record { at = 0; old = x; new = y; stood = refl; stands = refl; apart = e }

gap : (xs ys : List KeptField) → length ys ≡ length xs → pointwise same_kept xs ys ≡ false → HasGap xs ys
gap [] [] e off = cc
gap (x ∷ xs) (y ∷ ys) e off = gap_at x y xs ys (same_kept x y) refl (gap xs ys (omega (arith, e))) off
gap [] (y ∷ ys) e off = absurd (omega (arith, e))
gap (x ∷ xs) [] e off = absurd (omega (arith, e))

some_in : (x y : KeptField) → Some x ≡ Some y → x ≡ y
some_in x y e = cc

and_first_off : (a b : Bool) → a ≡ false → (a && b) ≡ false
and_first_off a b e = rw e refl

and_second_off : (a b : Bool) → b ≡ false → (a && b) ≡ false
and_second_off true b e = e
and_second_off false b e = refl

gap_differs : (xs ys : List KeptField) (i : ℕ) (h g : KeptField) → slice_get xs i ≡ Some h → slice_get ys i ≡ Some g → same_kept h g ≡ false → pointwise same_kept xs ys ≡ false
gap_differs [] ys i h g p q e = cc
gap_differs (x ∷ xs) [] i h g p q e = refl
gap_differs (x ∷ xs) (y ∷ ys) zero h g p q e =
    and_first_off (same_kept x y) (pointwise same_kept xs ys) (ap (λ (u : KeptField). same_kept u y) (some_in x h p) ∙ ap (λ (u : KeptField). same_kept h u) (some_in y g q) ∙ e)
gap_differs (x ∷ xs) (y ∷ ys) (suc i) h g p q e = and_second_off (same_kept x y) (pointwise same_kept xs ys) (gap_differs xs ys i h g p q e)

-- ---- rows in key order

below_apart : (k j : Key) → key_cmp k j ≡ Less → same_key j k ≡ false
below_apart k j less = other_key j k k (ap is_eq less) (own_key k)

looked_behind : (first : Row) (ys xs : List Row) → AllByRecursion (λ k. key_cmp first.0 k ≡ Less) (keys_of xs) → Each (λ (row : Row). lookup (same_key row.0) ys ≡ Some row.1) xs →
    Each (λ (row : Row). lookup (same_key row.0) (first ∷ ys) ≡ Some row.1) xs
looked_behind first ys [] below there = tt
looked_behind first ys (row ∷ xs) below there =
    (ap (λ b. cond b (Some first.1) (lookup (same_key row.0) ys)) (below_apart first.0 row.0 below.0) ∙ there.0, looked_behind first ys xs below.1 there.1)

pub looked : (rows : List Row) → IsAscending rows → Each (λ (row : Row). lookup (same_key row.0) rows ≡ Some row.1) rows
looked [] order = tt
looked (row ∷ rows) order = (
  ap (λ b. cond b (Some row.1) (lookup (same_key row.0) rows)) (own_key row.0),
  looked_behind row rows rows (sorted_head key_cmp row.0 (keys_of rows) order) (looked rows (sorted_tail key_cmp row.0 (keys_of rows) order)),
)

-- ---- counting keys

count_cons : {A : Type 0} (p : A → Bool) (x : A) (xs : List A) → count_by p (x ∷ xs) ≡ cond (p x) 1 0 + count_by p xs
count_cons p x xs = sum_by-cons (λ y. cond (p y) 1 0) x xs

count_alike : {A : Type 0} (p q : A → Bool) (xs : List A) → Each (λ x. p x ≡ q x) xs → count_by p xs ≡ count_by q xs
count_alike p q [] a = refl
count_alike p q (x ∷ xs) a =
    let one = count_cons p x xs in
    let two = count_cons q x xs in
    let own = ap (λ (b : Bool). cond {A = ℕ} b 1 0) a.0 in
    let rest = count_alike p q xs a.1 in
    omega arith

either_counts : (a b : Bool) → (a ≡ true → b ≡ false) → cond {A = ℕ} (a || b) 1 0 ≡ cond {A = ℕ} a 1 0 + cond {A = ℕ} b 1 0
either_counts true true no_both = let off = no_both refl in cc
either_counts true false no_both = refl
either_counts false true no_both = refl
either_counts false false no_both = refl

count_either : (p q : Row → Bool) (rows : List Row) → ((row : Row) → p row ≡ true → q row ≡ false) → count_by (λ row. p row || q row) rows ≡ count_by p rows + count_by q rows
count_either p q [] apart = refl
count_either p q (row ∷ rows) apart =
    let all = count_cons (λ (r : Row). p r || q r) row rows in
    let one = count_cons p row rows in
    let two = count_cons q row rows in
    let own = either_counts (p row) (q row) (apart row) in
    let rest = count_either p q rows apart in
    omega arith

count_none : (rows : List Row) → count_by (λ (row : Row). false) rows ≡ 0
count_none [] = refl
count_none (row ∷ rows) = let one = count_cons (λ (r : Row). false) row rows in let rest = count_none rows in omega arith

count_below : (key : Key) (rows : List Row) → AllByRecursion (λ k. key_cmp key k ≡ Less) (keys_of rows) → count_by (λ (row : Row). same_key row.0 key) rows ≡ 0
count_below key [] below = refl
count_below key (row ∷ rows) below =
    let one = count_cons (λ (r : Row). same_key r.0 key) row rows in
    let own = ap (λ (b : Bool). cond {A = ℕ} b 1 0) (below_apart key row.0 below.0) in
    let rest = count_below key rows below.1 in
    omega arith

count_own_at : (key : Key) (row : Row) (rows : List Row) (b : Bool) → same_key key row.0 ≡ b → AllByRecursion (λ k. key_cmp row.0 k ≡ Less) (keys_of rows) →
    (is_some (lookup (same_key key) rows) ≡ true → count_by (λ (r : Row). same_key r.0 key) rows ≡ 1) → is_some (cond b (Some row.1) (lookup (same_key key) rows)) ≡ true →
    count_by (λ (r : Row). same_key r.0 key) (row ∷ rows) ≡ 1
count_own_at key row rows true e below more some =
    let same : key ≡ row.0 = (key_Decides key row.0).0 e in
    let one = count_cons (λ (r : Row). same_key r.0 key) row rows in
    let own = ap (λ (b : Bool). cond {A = ℕ} b 1 0) ((key_Decides row.0 key).1 (sym same)) in
    let rest = count_below key rows (below_equal key row.0 (keys_of rows) same below) in
    omega arith
count_own_at key row rows false e below more some =
    let one = count_cons (λ (r : Row). same_key r.0 key) row rows in
    let own = ap (λ (b : Bool). cond {A = ℕ} b 1 0) (other_key row.0 key key e (own_key key)) in
    let rest = more some in
    omega arith

-- a key that has a row has one
count_one : (key : Key) (rows : List Row) → IsAscending rows → is_some (lookup (same_key key) rows) ≡ true → count_by (λ (row : Row). same_key row.0 key) rows ≡ 1
count_one key [] order some = cc
count_one key (row ∷ rows) order some =
    count_own_at key row rows (same_key key row.0) refl (sorted_head key_cmp row.0 (keys_of rows) order) (count_one key rows (sorted_tail key_cmp row.0 (keys_of rows) order)) some

named_once : (keys : List Key) (key : Key) (row : Row) → is_key_among keys key ≡ false → same_key row.0 key ≡ true → is_key_among keys row.0 ≡ false
named_once keys key row off same = ap (is_key_among keys) ((key_Decides row.0 key).0 same) ∙ off

or_true_second : (a b : Bool) → b ≡ true → (a || b) ≡ true
or_true_second true b e = refl
or_true_second false b e = e

or_true_first : (a b : Bool) → a ≡ true → (a || b) ≡ true
or_true_first a b e = rw e refl

-- distinct keys that all have rows are as many as the rows of them
count_keys : (keys : List Key) (rows : List Row) → IsAscending rows → AreDistinct keys → ((key : Key) → is_key_among keys key ≡ true → is_some (lookup (same_key key) rows) ≡ true) →
    count_by (λ (row : Row). is_key_among keys row.0) rows ≡ length keys
count_keys [] rows order distinct there = count_none rows
count_keys (key ∷ keys) rows order distinct there =
    let split = count_either (λ row. same_key row.0 key) (λ row. is_key_among keys row.0) rows (λ row same. named_once keys key row distinct.0 same) in
    let one = count_one key rows order (there key (or_true_first (same_key key key) (is_key_among keys key) (own_key key))) in
    let rest = count_keys keys rows order distinct.1 (λ k among. there k (or_true_second (same_key k key) (is_key_among keys k) among)) in
    omega arith

-- ---- the records that differ

bool_same : (a b : Bool) → (a ≡ true → b ≡ true) → (b ≡ true → a ≡ true) → a ≡ b
bool_same true true f g = refl
bool_same false false f g = refl
bool_same true false f g = sym (f refl)
bool_same false true f g = g refl

module _ (a : Arrival) (before now : State) (class : Class) (keys : List Key) (are : AreChanged a before now class keys) (kept : StayKept a before now class) where
  found_field : (key : Key) (i : ℕ) (r : KeptRecord) (s : State) (h : KeptField) → kept_under class key s ≡ Some r → slice_get r.fields i ≡ Some h → field_under (place_in class key i) s ≡ Some h
  found_field key i r s h there is = ap (option_and_then (field_at i)) there ∙ is

  same_lengths : (key : Key) (r old : KeptRecord) → is_committed a class key ≡ false → kept_under class key now ≡ Some r → kept_under class key before ≡ Some old →
      length r.fields ≡ length old.fields
  same_lengths key r old other there stood =
      let lengths : Some (count_fields r) ≡ Some (count_fields old) = sym (ap (option_map count_fields) there) ∙ kept key other ∙ ap (option_map count_fields) stood in
      cc

  exchanged : (key : Key) (r old : KeptRecord) → kept_under class key now ≡ Some r → kept_under class key before ≡ Some old → (g : HasGap old.fields r.fields) →
      IsExchanged (place_in class key g.at) before now
  exchanged key r old there stood g = record {
    old = g.old;
    new = g.new;
    stood = found_field key g.at old before g.old stood g.stood;
    stands = found_field key g.at r now g.new there g.stands;
    differs = g.apart;
  }

  not_true : (b : Bool) → not b ≡ true → b ≡ false
  not_true true e = cc
  not_true false e = refl

  changed_old : (key : Key) (r : KeptRecord) (o : Option KeptRecord) (b : Bool) → is_committed a class key ≡ b → kept_under class key now ≡ Some r → kept_under class key before ≡ o →
      (not b && option_map_or (differs r) o false) ≡ true → is_key_among keys key ≡ true
  changed_old key r None true other there stood e = cc
  changed_old key r (Some old) true other there stood e = cc
  changed_old key r None false other there stood e = cc
  changed_old key r (Some old) false other there stood e =
      let g = gap old.fields r.fields (same_lengths key r old other there stood) (not_true (pointwise same_kept old.fields r.fields) e) in
      are.all key g.at other (exchanged key r old there stood g)

  field_in : (i : ℕ) (o : Option KeptRecord) (h : KeptField) → option_and_then (field_at i) o ≡ Some h → (r : KeptRecord) × ((o ≡ Some r) × (slice_get r.fields i ≡ Some h))
  field_in i None h e = cc
  field_in i (Some r) h e = (r, (refl, e))

  among_changed : (key : Key) (r : KeptRecord) (i : ℕ) → is_committed a class key ≡ false → kept_under class key now ≡ Some r → IsExchanged (place_in class key i) before now →
      (not (is_committed a class key) && option_map_or (differs r) (kept_under class key before) false) ≡ true
  among_changed key r i other there x =
      let old = field_in i (kept_under class key before) x.old x.stood in
      let stands : slice_get r.fields i ≡ Some x.new = sym (ap (option_and_then (field_at i)) there) ∙ x.stands in
      let off = gap_differs old.0.fields r.fields i x.old x.new old.1.1 stands x.differs in
      ap (λ (b : Bool). not b && option_map_or (differs r) (kept_under class key before) false) other
      ∙ ap (λ (o : Option KeptRecord). option_map_or (differs r) o false) old.1.0
      ∙ ap not off

  row_changed : (row : Row) → lookup (same_key row.0) (rows_of class now) ≡ Some row.1 → is_changed_row a before class row ≡ is_key_among keys row.0
  row_changed row there =
      bool_same (is_changed_row a before class row) (is_key_among keys row.0)
      (changed_old row.0 row.1 (kept_under class row.0 before) (is_committed a class row.0) refl there refl)
      (λ among. let x = are.changed row.0 among in among_changed row.0 row.1 x.0 (are.other row.0 among) there x.1)

  has_row : (key : Key) → is_key_among keys key ≡ true → is_some (lookup (same_key key) (rows_of class now)) ≡ true
  has_row key among =
      let x = are.changed key among in
      let r = field_in x.0 (kept_under class key now) x.1.new x.1.stands in
      ap is_some r.1.0

  -- the keys are as many as the other records that differ
  pub changed_are : IsAscending (rows_of class now) → changed_in a before now class ≡ length keys
  changed_are order =
      count_alike (is_changed_row a before class) (λ row. is_key_among keys row.0) (rows_of class now)
      (each_weaker (λ (row : Row). lookup (same_key row.0) (rows_of class now) ≡ Some row.1) (λ row. is_changed_row a before class row ≡ is_key_among keys row.0) row_changed (rows_of class now)
      (looked (rows_of class now) order))
      ∙ count_keys keys (rows_of class now) order are.distinct has_row

-- ---- a record under another key stays

other_insert_at : (q key : Key) (r : KeptRecord) (o : Ordering) (row : Row) (rows more : List Row) → key_cmp key row.0 ≡ o → same_key key q ≡ false →
    lookup (same_key q) more ≡ lookup (same_key q) rows → lookup (same_key q) (match_ordering o ((key, r) ∷ row ∷ rows) ((row.0, r) ∷ rows) (row ∷ more)) ≡ lookup (same_key q) (row ∷ rows)
other_insert_at q key r Less row rows more e apart is =
    ap (λ (b : Bool). cond b (Some r) (lookup (same_key q) (row ∷ rows))) (other_key q key key apart (own_key key))
other_insert_at q key r Equal row rows more e apart is =
    let off = other_key q key row.0 apart (ap is_eq e) in
    ap (λ (b : Bool). cond b (Some r) (lookup (same_key q) rows)) off ∙ sym (ap (λ (b : Bool). cond b (Some row.1) (lookup (same_key q) rows)) off)
other_insert_at q key r Greater row rows more e apart is = ap (λ (o : Option KeptRecord). cond (same_key q row.0) (Some row.1) o) is

other_insert : (q key : Key) (r : KeptRecord) (rows : List Row) → same_key key q ≡ false → lookup (same_key q) (insert_entry key_cmp rows key r) ≡ lookup (same_key q) rows
other_insert q key r [] apart = ap (λ (b : Bool). cond b (Some r) None) (other_key q key key apart (own_key key))
other_insert q key r (row ∷ rows) apart = other_insert_at q key r (key_cmp key row.0) row rows (insert_entry key_cmp rows key r) refl apart (other_insert q key r rows apart)

other_remove_at : (q key : Key) (b : Bool) (row : Row) (rows more : List Row) → same_key key row.0 ≡ b → same_key key q ≡ false →
    lookup (same_key q) more ≡ lookup (same_key q) rows → lookup (same_key q) (cond b rows (row ∷ more)) ≡ lookup (same_key q) (row ∷ rows)
other_remove_at q key true row rows more e apart is = sym (ap (λ (b : Bool). cond b (Some row.1) (lookup (same_key q) rows)) (other_key q key row.0 apart e))
other_remove_at q key false row rows more e apart is = ap (λ (o : Option KeptRecord). cond (same_key q row.0) (Some row.1) o) is

other_remove : (q key : Key) (rows : List Row) → same_key key q ≡ false → lookup (same_key q) (remove_entry (same_key key) rows) ≡ lookup (same_key q) rows
other_remove q key [] apart = refl
other_remove q key (row ∷ rows) apart = other_remove_at q key (same_key key row.0) row rows (remove_entry (same_key key) rows) refl apart (other_remove q key rows apart)

pub other_placed : (a : Arrival) (q : Key) (rows : List Row) → same_key a.key q ≡ false → lookup (same_key q) (place a rows) ≡ lookup (same_key q) rows
unfolding place
other_placed a q rows apart = at (is_deletion a.leader)
  where
    at : (b : Bool) → lookup (same_key q) (if b then remove_entry (same_key a.key) rows else insert_entry key_cmp rows a.key (new_record a.leader a.fields)) ≡ lookup (same_key q) rows
    at true = other_remove q a.key rows apart
    at false = other_insert q a.key (new_record a.leader a.fields) rows apart

class_apart : (k c : Class) (b : Bool) → same_class k c ≡ true → (same_class k c && b) ≡ false → b ≡ false
class_apart k c b e off = at (same_class k c) e off
  where
    at : (d : Bool) → d ≡ true → (d && b) ≡ false → b ≡ false
    at true p q = q
    at false p q = cc

pub kept_placed : (k c : Class) (a : Arrival) (s : State) (q : Key) → a.class ≡ k → (same_class k c && same_key a.key q) ≡ false → kept_under c q (placed_in k a s) ≡ kept_under c q s
kept_placed Authority Authority a s q e apart = other_placed a q s.authorities (class_apart Authority Authority (same_key a.key q) refl apart)
kept_placed Bibliographic Bibliographic a s q e apart = other_placed a q s.bibliographic (class_apart Bibliographic Bibliographic (same_key a.key q) refl apart)
kept_placed Authority Bibliographic a s q e apart = refl
kept_placed Bibliographic Authority a s q e apart = refl

-- a record behind a commit
kept_behind : (all : List Linkable) (o : Option (Key × Option Key)) (s : State) (c : Class) (q : Key) → kept_under c q (state_behind all o s) ≡ option_map (record_behind all o c) (kept_under c q s)
kept_behind all o s Authority q = lookup-map_values (record_behind all o Authority) (same_key q) s.authorities
kept_behind all o s Bibliographic q = lookup-map_values (record_behind all o Bibliographic) (same_key q) s.bibliographic

mapped_length : (f : KeptField → KeptField) (hs : List KeptField) → length (map f hs) ≡ length hs
mapped_length f [] = refl
mapped_length f (h ∷ hs) = ap suc (mapped_length f hs)

count_behind : (all : List Linkable) (o : Option (Key × Option Key)) (c : Class) (r : Option KeptRecord) → option_map count_fields (option_map (record_behind all o c) r) ≡ option_map count_fields r
count_behind all o c None = refl
count_behind all o c (Some r) =
    ap (λ (n : ℕ). Some n) (mapped_length (settle_field all c) (map (loosened_by all o c) r.fields) ∙ mapped_length (loosened_by all o c) r.fields)

-- each other record keeps its number of fields
pub stay_kept : (s : State) (e : Entry) (k class : Class) → CanBeCommitted k s e → StayKept (arrival_of e) s (step s (arrival_of e)) class
stay_kept s e k class c = λ q other.
    let a = arrival_of e in
    let all = linkable_authorities (placed a s) in
    ap (λ (t : State). option_map count_fields (kept_under class q t)) (step_behind s e c.valid c.admitted)
    ∙ ap (option_map count_fields) (kept_behind all (ended_by a) (placed a s) class q)
    ∙ count_behind all (ended_by a) class (kept_under class q (placed a s))
    ∙ ap (option_map count_fields) (kept_placed a.class class a s q refl other)

ascends : (class : Class) (s : State) → IsValid s → IsAscending (rows_of class s)
ascends Authority s v = v.authorities_ascend
ascends Bibliographic s v = v.bibliographic_ascend

-- the keys of a class are as many as the receipt counts
pub changed_records_are : (s : State) (e : Entry) (k class : Class) (keys : List Key) → CanBeCommitted k s e → AreChanged (arrival_of e) s (step s (arrival_of e)) class keys →
    changed_in (arrival_of e) s (step s (arrival_of e)) class ≡ length keys
changed_records_are s e k class keys c are =
    changed_are (arrival_of e) s (step s (arrival_of e)) class keys are (stay_kept s e k class c)
    (ascends class (step s (arrival_of e)) (step_valid s e c.valid c.admitted))

-- the sum of both classes is the receipt's number
pub changed_number : (at : ℕ) (s : State) (e : Entry) (k : Class) (authorities bibliographic : List Key) → CanBeCommitted k s e → AreChangedBy s e Authority authorities →
    AreChangedBy s e Bibliographic bibliographic → (receipt_by at s e).changed_records ≡ length authorities + length bibliographic
unfolding receipt_of
changed_number at s e k authorities bibliographic c first second =
    let one = changed_records_are s e k Authority authorities c first in
    let two = changed_records_are s e k Bibliographic bibliographic c second in
    omega arith

-- ---- the committed record

found_at : (key : Key) (r : KeptRecord) (o : Ordering) (row : Row) (rows more : List Row) → key_cmp key row.0 ≡ o → lookup (same_key key) more ≡ Some r →
    lookup (same_key key) (match_ordering o ((key, r) ∷ row ∷ rows) ((row.0, r) ∷ rows) (row ∷ more)) ≡ Some r
found_at key r Less row rows more e is = ap (λ b. cond b (Some r) (lookup (same_key key) (row ∷ rows))) (own_key key)
found_at key r Equal row rows more e is = ap (λ o. cond (is_eq o) (Some r) (lookup (same_key key) rows)) e
found_at key r Greater row rows more e is = ap (λ o. cond (is_eq o) (Some row.1) (lookup (same_key key) more)) e ∙ is

found_inserted : (rows : List Row) (key : Key) (r : KeptRecord) → lookup (same_key key) (insert_entry key_cmp rows key r) ≡ Some r
found_inserted [] key r = ap (λ b. cond b (Some r) None) (own_key key)
found_inserted (row ∷ rows) key r = found_at key r (key_cmp key row.0) row rows (insert_entry key_cmp rows key r) refl (found_inserted rows key r)

absent_at : (key : Key) (b : Bool) (row : Row) (rows more : List Row) → same_key key row.0 ≡ b → IsBelow row.0 (keys_of rows) → lookup (same_key key) more ≡ None →
    lookup (same_key key) (cond b rows (row ∷ more)) ≡ None
absent_at key true row rows more e below is = lookup_below key rows (below_equal key row.0 (keys_of rows) ((key_Decides key row.0).0 e) below)
absent_at key false row rows more e below is = ap (λ b. cond b (Some row.1) (lookup (same_key key) more)) e ∙ is

absent_removed : (rows : List Row) (key : Key) → IsAscending rows → lookup (same_key key) (remove_entry (same_key key) rows) ≡ None
absent_removed [] key order = refl
absent_removed (row ∷ rows) key order =
    absent_at key (same_key key row.0) row rows (remove_entry (same_key key) rows) refl (sorted_head key_cmp row.0 (keys_of rows) order)
    (absent_removed rows key (sorted_tail key_cmp row.0 (keys_of rows) order))

found_placed : (a : Arrival) (rows : List Row) → IsAscending rows → lookup (same_key a.key) (place a rows) ≡ (if is_deletion a.leader then None else Some (new_record a.leader a.fields))
unfolding place
found_placed a rows order = at (is_deletion a.leader)
  where
    at : (b : Bool) → lookup (same_key a.key) (if b then remove_entry (same_key a.key) rows else insert_entry key_cmp rows a.key (new_record a.leader a.fields))
        ≡ (if b then None else Some (new_record a.leader a.fields))
    at true = absent_removed rows a.key order
    at false = found_inserted rows a.key (new_record a.leader a.fields)

kept_own : (k : Class) (a : Arrival) (s : State) → IsValid s → kept_under k a.key (placed_in k a s) ≡ (if is_deletion a.leader then None else Some (new_record a.leader a.fields))
kept_own Authority a s v = found_placed a s.authorities v.authorities_ascend
kept_own Bibliographic a s v = found_placed a s.bibliographic v.bibliographic_ascend

fresh_field : (all : List Linkable) (o : Option (Key × Option Key)) (class : Class) (f : Field) → loosened_by all o class (new_field f) ≡ new_field f
unfolding loosen
fresh_field all None class f = refl
fresh_field all (Some (key, successor)) class f = refl

fresh_fields : (all : List Linkable) (o : Option (Key × Option Key)) (class : Class) (fs : List Field) → map (loosened_by all o class) (map new_field fs) ≡ map new_field fs
fresh_fields all o class [] = refl
fresh_fields all o class (f ∷ fs) = λ i. fresh_field all o class f i ∷ fresh_fields all o class fs i

count_at : (test : Standing → Bool) (all : List Linkable) (o : Option (Key × Option Key)) (class : Class) (l : Leader) (fs : List Field) (b : Bool) →
    option_map_or (count_standing test all class) (option_map (record_behind all o class) (if b then None else Some (new_record l fs))) 0
    ≡ (if b then 0 else count_by (λ h. test (standing_of all class h)) (map (settle_field all class) (map new_field fs)))
count_at test all o class l fs true = refl
count_at test all o class l fs false =
    ap (λ (hs : List KeptField). count_by (λ h. test (standing_of all class h)) (map (settle_field all class) hs)) (fresh_fields all o class fs)

counted_own : (test : Standing → Bool) (s : State) (e : Entry) → CanBeCommitted e.class s e →
    option_map_or (count_standing test (linkable_authorities (step s (arrival_of e))) e.class) (kept_under e.class e.key (step s (arrival_of e))) 0 ≡ count_own test s e
counted_own test s e c =
    let a = arrival_of e in
    let all = linkable_authorities (placed a s) in
    ap (λ (l : List Linkable). option_map_or (count_standing test l e.class) (kept_under e.class e.key (step s a)) 0) (step_linkables s e c.valid c.admitted)
    ∙ ap (λ (t : State). option_map_or (count_standing test all e.class) (kept_under e.class e.key t) 0) (step_behind s e c.valid c.admitted)
    ∙ ap (λ (o : Option KeptRecord). option_map_or (count_standing test all e.class) o 0) (kept_behind all (ended_by a) (placed a s) e.class e.key)
    ∙ ap (λ (o : Option KeptRecord). option_map_or (count_standing test all e.class) (option_map (record_behind all (ended_by a) e.class) o) 0) (kept_own e.class a s c.valid)
    ∙ count_at test all (ended_by a) e.class e.rec.leader e.rec.fields (is_deletion e.rec.leader)

own_class : (s : State) (e : Entry) (k : Class) → CanBeCommitted k s e → CanBeCommitted e.class s e
own_class s e k c = record { valid = c.valid; admitted = c.admitted; class_is = refl }

-- the other numbers of the receipt are counted over the committed record's settled fields
pub own_counts : (at : ℕ) (s : State) (e : Entry) (k : Class) → CanBeCommitted k s e → AreOwnCounts s e (receipt_by at s e)
unfolding receipt_of
own_counts at s e k c =
    let own = own_class s e k c in
    record { linked = counted_own is_linked s e own; ambiguous = counted_own is_ambiguous s e own; unlinked = counted_own is_unlinked s e own }
