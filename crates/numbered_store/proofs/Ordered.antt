-- Rows in key order: what stands under each key, and that look-ups tell them apart.
use Rattle.std.proofs.Common.{◌≡◌, suc, Bool, true, false, cond, List, [], ◌∷◌, length, map, Option, Some, None, refl, sym, ap, ◌∙◌, subst, if◌then◌else◌}
use mathlib.Core.Bool.{false≢true}
use Rattle.std.specs.Option.{is_some, option_map, unwrap_or}
use Rattle.std.specs.List.Sorted.{IsStrictlySortedBy}
use Rattle.std.specs.Map.{keys_of, lookup, remove_entry}
use Rattle.std.specs.BTreeMap.{insert_entry}
use Rattle.std.specs.Cmp.{IsEquivalence, eq_by_cmp_equiv}
use Rattle.std.specs.declared.cmp.Ordering.{Ordering}
use Rattle.std.specs.declared.cmp.Ordering.TheVariants.{Less, Equal, Greater}
use Rattle.std.specs.Ordering.{is_eq, match_ordering, ordering_reverse}
use Rattle.std.proofs.lemmas.Map.{lookup-remove_entry}
use Rattle.std.proofs.lemmas.Map.Keys.{IsDistinct-from_sorted, sorted_head, sorted_tail}
use Rattle.marc_types.specs.Order.{key_cmp, key_cmp_total, key_Decides, same_key}
use Rattle.marc_types.specs.declared.key.Key.{Key}
use Rattle.catalogue_rules.proofs.Places.{IsBelow, IsInOrder, lookup_below, still_below}
use Rattle.catalogue_rules.specs.State.{KeptRecord, Row}
use Rattle.numbered_store.specs.Rows.{in_key_order, with_row}

pub key_laws : IsEquivalence same_key
key_laws = eq_by_cmp_equiv key_cmp_total

pub own_key : (key : Key) → same_key key key ≡ true
own_key key = (key_Decides key key).1 refl

pub tied_key : (x y : Key) → same_key x y ≡ true → x ≡ y
tied_key x y e = (key_Decides x y).0 e

module _ {V : Type 0} where
  -- ---- putting a row in

  find_at : (q key : Key) (v : V) (row : Key × V) (rows more : List (Key × V)) (o : Ordering) (b c : Bool) → key_cmp key row.0 ≡ o → same_key q key ≡ b → same_key q row.0 ≡ c
      → lookup (same_key q) more ≡ cond b (Some v) (lookup (same_key q) rows)
      → lookup (same_key q) (match_ordering o ((key, v) ∷ row ∷ rows) ((row.0, v) ∷ rows) (row ∷ more)) ≡ cond b (Some v) (cond c (Some row.1) (lookup (same_key q) rows))
  find_at q key v row rows more Less b c is own other rest = rw (own, other) refl
  find_at q key v row rows more Equal b c is own other rest =
      let tied : key ≡ row.0 = tied_key key row.0 (ap is_eq is) in
      let alike : b ≡ c = sym own ∙ ap (same_key q) tied ∙ other in
      rw other (by b c alike)
    where
      by : (b c : Bool) → b ≡ c → cond c (Some v) (lookup (same_key q) rows) ≡ cond b (Some v) (cond c (Some row.1) (lookup (same_key q) rows))
      by true true e = refl
      by false false e = refl
      by true false e = absurd (false≢true (sym e))
      by false true e = absurd (false≢true e)
  find_at q key v row rows more Greater false c is own other rest = rw other (ap (cond c (Some row.1)) rest)
  find_at q key v row rows more Greater true false is own other rest = rw other rest
  find_at q key v row rows more Greater true true is own other rest =
      let tied : key ≡ row.0 = sym (tied_key q key own) ∙ tied_key q row.0 other in
      absurd (false≢true (ap is_eq (sym is) ∙ ap (same_key key) (sym tied) ∙ own_key key))

  -- what stands under each key then
  pub lookup_inserted : (q key : Key) (v : V) (rows : List (Key × V)) → lookup (same_key q) (insert_entry key_cmp rows key v) ≡ cond (same_key q key) (Some v) (lookup (same_key q) rows)
  lookup_inserted q key v [] = refl
  lookup_inserted q key v (row ∷ rows) =
      find_at q key v row rows (insert_entry key_cmp rows key v) (key_cmp key row.0) (same_key q key) (same_key q row.0) refl refl refl (lookup_inserted q key v rows)

  below_at : (k key : Key) (v : V) (row : Key × V) (rows more : List (Key × V)) (o : Ordering) → key_cmp k key ≡ Less → IsBelow k (keys_of (row ∷ rows)) → IsBelow k (keys_of more)
      → IsBelow k (keys_of (match_ordering o ((key, v) ∷ row ∷ rows) ((row.0, v) ∷ rows) (row ∷ more)))
  below_at k key v row rows more Less less below rest = (less, below)
  below_at k key v row rows more Equal less below rest = below
  below_at k key v row rows more Greater less below rest = (below.0, rest)

  below_inserted : (k key : Key) (v : V) (rows : List (Key × V)) → key_cmp k key ≡ Less → IsBelow k (keys_of rows) → IsBelow k (keys_of (insert_entry key_cmp rows key v))
  below_inserted k key v [] less below = (less, tt)
  below_inserted k key v (row ∷ rows) less below =
      below_at k key v row rows (insert_entry key_cmp rows key v) (key_cmp key row.0) less below (below_inserted k key v rows less below.1)

  order_at : (key : Key) (v : V) (row : Key × V) (rows : List (Key × V)) (o : Ordering) → key_cmp key row.0 ≡ o → IsInOrder (row ∷ rows) → IsInOrder (insert_entry key_cmp rows key v)
      → IsInOrder (match_ordering o ((key, v) ∷ row ∷ rows) ((row.0, v) ∷ rows) (row ∷ insert_entry key_cmp rows key v))
  unfolding IsStrictlySortedBy
  order_at key v row rows Less is order rest = ((is, still_below key row.0 is (keys_of rows) order.0), order)
  order_at key v row rows Equal is order rest = order
  order_at key v row rows Greater is order rest =
      (below_inserted row.0 key v rows (key_cmp_total.antisymm row.0 key ∙ ap ordering_reverse is) order.0, rest)

  pub order_inserted : (key : Key) (v : V) (rows : List (Key × V)) → IsInOrder rows → IsInOrder (insert_entry key_cmp rows key v)
  unfolding IsStrictlySortedBy
  order_inserted key v [] order = (tt, tt)
  order_inserted key v (row ∷ rows) order = order_at key v row rows (key_cmp key row.0) refl order (order_inserted key v rows order.1)

  length_at : (key : Key) (v : V) (row : Key × V) (rows more : List (Key × V)) (o : Ordering) → cond (is_eq o) (Some row.1) (lookup (same_key key) rows) ≡ None
      → (lookup (same_key key) rows ≡ None → length more ≡ suc (length rows))
      → length (match_ordering o ((key, v) ∷ row ∷ rows) ((row.0, v) ∷ rows) (row ∷ more)) ≡ suc (suc (length rows))
  length_at key v row rows more Less none rest = refl
  length_at key v row rows more Equal none rest = absurd (false≢true (sym (ap is_some none)))
  length_at key v row rows more Greater none rest = ap suc (rest none)

  length_inserted : (key : Key) (v : V) (rows : List (Key × V)) → lookup (same_key key) rows ≡ None → length (insert_entry key_cmp rows key v) ≡ suc (length rows)
  length_inserted key v [] none = refl
  length_inserted key v (row ∷ rows) none = length_at key v row rows (insert_entry key_cmp rows key v) (key_cmp key row.0) none (length_inserted key v rows)

  -- ---- all rows put in, one by one

  pub lookup_ordered : (q : Key) (rows : List (Key × V)) → lookup (same_key q) (in_key_order rows) ≡ lookup (same_key q) rows
  lookup_ordered q [] = refl
  lookup_ordered q (row ∷ rows) = lookup_inserted q row.0 row.1 (in_key_order rows) ∙ ap (cond (same_key q row.0) (Some row.1)) (lookup_ordered q rows)

  pub ordered : (rows : List (Key × V)) → IsInOrder (in_key_order rows)
  unfolding IsStrictlySortedBy
  ordered [] = tt
  ordered (row ∷ rows) = order_inserted row.0 row.1 (in_key_order rows) (ordered rows)

  pub length_ordered_more : (row : Key × V) (rows : List (Key × V)) → lookup (same_key row.0) rows ≡ None → length (in_key_order (row ∷ rows)) ≡ suc (length (in_key_order rows))
  length_ordered_more row rows none = length_inserted row.0 row.1 (in_key_order rows) (lookup_ordered row.0 rows ∙ none)

  -- ---- taking a row out

  below_removed : (k : Key) (test : Key → Bool) (rows : List (Key × V)) → IsBelow k (keys_of rows) → IsBelow k (keys_of (remove_entry test rows))
  below_removed k test [] below = tt
  below_removed k test (row ∷ rows) below = by (test row.0) (below_removed k test rows below.1)
    where
      by : (b : Bool) → IsBelow k (keys_of (remove_entry test rows)) → IsBelow k (keys_of (cond b rows (row ∷ remove_entry test rows)))
      by true rest = below.1
      by false rest = (below.0, rest)

  order_removed_at : (test : Key → Bool) (row : Key × V) (rows : List (Key × V)) (b : Bool) → IsInOrder (row ∷ rows) → IsInOrder (remove_entry test rows)
      → IsInOrder (cond b rows (row ∷ remove_entry test rows))
  unfolding IsStrictlySortedBy
  order_removed_at test row rows true order rest = order.1
  order_removed_at test row rows false order rest = (below_removed row.0 test rows order.0, rest)

  pub order_removed : (test : Key → Bool) (rows : List (Key × V)) → IsInOrder rows → IsInOrder (remove_entry test rows)
  unfolding IsStrictlySortedBy
  order_removed test [] order = tt
  order_removed test (row ∷ rows) order = order_removed_at test row rows (test row.0) order (order_removed test rows order.1)

  pub lookup_removed : (q key : Key) (rows : List (Key × V)) → IsInOrder rows → lookup (same_key q) (remove_entry (same_key key) rows) ≡ cond (same_key q key) None (lookup (same_key q) rows)
  lookup_removed q key rows order =
      lookup-remove_entry key_laws (same_key key) (λ x y e. key_laws.congr key x y e) q rows (IsDistinct-from_sorted key_cmp (keys_of rows) order)
      ∙ ap (λ b. cond b None (lookup (same_key q) rows)) (key_laws.symm key q)

  -- ---- rows in key order with the same under each key are the same

  own_row : (row : Key × V) (rows : List (Key × V)) → lookup (same_key row.0) (row ∷ rows) ≡ Some row.1
  own_row row rows = rw (own_key row.0) refl

  none_before : (key : Key) (row : Key × V) (rows : List (Key × V)) → key_cmp key row.0 ≡ Less → IsInOrder (row ∷ rows) → lookup (same_key key) (row ∷ rows) ≡ None
  unfolding IsStrictlySortedBy
  none_before key row rows less order = lookup_below key (row ∷ rows) (less, still_below key row.0 less (keys_of rows) order.0)

  -- look-ups behind rows with the same key and value
  behind : (q : Key) (x y : Key × V) (xs ys : List (Key × V)) (b : Bool) → x.0 ≡ y.0 → x.1 ≡ y.1 → same_key q x.0 ≡ b → IsInOrder (x ∷ xs) → IsInOrder (y ∷ ys)
      → lookup (same_key q) (x ∷ xs) ≡ lookup (same_key q) (y ∷ ys) → lookup (same_key q) xs ≡ lookup (same_key q) ys
  behind q x y xs ys true key value e order order' alike =
      let tied : q ≡ x.0 = tied_key q x.0 e in
      lookup_below q xs (subst (λ k. IsBelow k (keys_of xs)) (sym tied) (sorted_head key_cmp x.0 (keys_of xs) order))
      ∙ sym (lookup_below q ys (subst (λ k. IsBelow k (keys_of ys)) (sym (tied ∙ key)) (sorted_head key_cmp y.0 (keys_of ys) order')))
  behind q x y xs ys false key value e order order' alike =
      let off : same_key q y.0 ≡ false = ap (same_key q) (sym key) ∙ e in
      ap (λ b. cond b (Some x.1) (lookup (same_key q) xs)) (sym e) ∙ alike ∙ ap (λ b. cond b (Some y.1) (lookup (same_key q) ys)) off

  same_heads : (x y : Key × V) (xs ys : List (Key × V)) (o : Ordering) → key_cmp x.0 y.0 ≡ o → IsInOrder (x ∷ xs) → IsInOrder (y ∷ ys)
      → ((q : Key) → lookup (same_key q) (x ∷ xs) ≡ lookup (same_key q) (y ∷ ys)) → x.0 ≡ y.0
  same_heads x y xs ys Equal is order order' alike = tied_key x.0 y.0 (ap is_eq is)
  same_heads x y xs ys Less is order order' alike =
      absurd (false≢true (sym (ap is_some (none_before x.0 y ys is order')) ∙ ap is_some (sym (alike x.0) ∙ own_row x xs)))
  same_heads x y xs ys Greater is order order' alike =
      absurd (false≢true (sym (ap is_some (none_before y.0 x xs (key_cmp_total.antisymm y.0 x.0 ∙ ap ordering_reverse is) order)) ∙ ap is_some (alike y.0 ∙ own_row y ys)))

  pub same_rows : (xs ys : List (Key × V)) → IsInOrder xs → IsInOrder ys → ((q : Key) → lookup (same_key q) xs ≡ lookup (same_key q) ys) → xs ≡ ys
  same_rows [] [] order order' alike = refl
  same_rows [] (y ∷ ys) order order' alike = absurd (false≢true (ap is_some (alike y.0 ∙ own_row y ys)))
  same_rows (x ∷ xs) [] order order' alike = absurd (false≢true (ap is_some (sym (alike x.0) ∙ own_row x xs)))
  same_rows (x ∷ xs) (y ∷ ys) order order' alike =
      let key = same_heads x y xs ys (key_cmp x.0 y.0) refl order order' alike in
      let value : x.1 ≡ y.1 = ap (λ o. unwrap_or o x.1) (sym (own_row x xs) ∙ alike x.0 ∙ ap (λ k. lookup (same_key k) (y ∷ ys)) key ∙ own_row y ys) in
      let rest = same_rows xs ys (sorted_tail key_cmp x.0 (keys_of xs) order) (sorted_tail key_cmp y.0 (keys_of ys) order') (λ q.
      behind q x y xs ys (same_key q x.0) key value refl order order' (alike q)) in
      λ i. (key i, value i) ∷ rest i

-- ---- another record, or none, under a key

pub lookup_with_row : (q key : Key) (r : Option KeptRecord) (rows : List Row) → IsInOrder rows → lookup (same_key q) (with_row (Some key) r rows) ≡ cond (same_key q key) r (lookup (same_key q) rows)
lookup_with_row q key None rows order = lookup_removed q key rows order
lookup_with_row q key (Some r) rows order = lookup_inserted q key r rows

pub order_with_row : (key : Option Key) (r : Option KeptRecord) (rows : List Row) → IsInOrder rows → IsInOrder (with_row key r rows)
order_with_row None r rows order = order
order_with_row (Some key) None rows order = order_removed (same_key key) rows order
order_with_row (Some key) (Some r) rows order = order_inserted key r rows order

-- what stood under the key, put back there, gives the rows as they were
pub row_back : (key : Option Key) (r : Option KeptRecord) (rows : List Row) → IsInOrder rows
    → (was : Option KeptRecord) → ((k : Key) → key ≡ Some k → was ≡ lookup (same_key k) rows) → with_row key was (with_row key r rows) ≡ rows
row_back None r rows order was is = refl
row_back (Some key) r rows order was is =
    let now = with_row (Some key) r rows in
    let order' = order_with_row (Some key) r rows order in
    same_rows (with_row (Some key) was now) rows (order_with_row (Some key) was now order') order (λ q.
    lookup_with_row q key was now order' ∙ ap (cond (same_key q key) was) (lookup_with_row q key r rows order) ∙ by q (same_key q key) refl)
  where
    by : (q : Key) (b : Bool) → same_key q key ≡ b → cond b was (cond b r (lookup (same_key q) rows)) ≡ lookup (same_key q) rows
    by q true e = is key refl ∙ ap (λ k. lookup (same_key k) rows) (sym (tied_key q key e))
    by q false e = refl

-- ---- a change of the record under a key

module _ (key : Key) (change : KeptRecord → KeptRecord) where
  abbrev pub changed_under : Row → Row
  changed_under row = if same_key key row.0 then (row.0, change row.1) else row

  keys_changed : (rows : List Row) → keys_of (map changed_under rows) ≡ keys_of rows
  keys_changed [] = refl
  keys_changed (row ∷ rows) = by (same_key key row.0) (keys_changed rows)
    where
      by : (b : Bool) → keys_of (map changed_under rows) ≡ keys_of rows → (if b then (row.0, change row.1) else row).0 ∷ keys_of (map changed_under rows) ≡ row.0 ∷ keys_of rows
      by true rest = ap (λ l. row.0 ∷ l) rest
      by false rest = ap (λ l. row.0 ∷ l) rest

  changed_at : (q : Key) (row : Row) (b c d : Bool) (now was : Option KeptRecord) → same_key key row.0 ≡ b → same_key q row.0 ≡ c → same_key q key ≡ d → now ≡ cond d (option_map change was) was
      → cond (same_key q (if b then (row.0, change row.1) else row).0) (Some (if b then (row.0, change row.1) else row).1) now ≡ cond d (option_map change (cond c (Some row.1) was)) (cond c (Some row.1) was)
  changed_at q row true true true now was e f g rest = rw f refl
  changed_at q row true false d now was e f g rest = rw f rest
  changed_at q row false false d now was e f g rest = rw f rest
  changed_at q row false true false now was e f g rest = rw f refl
  changed_at q row true true false now was e f g rest =
      let tied : key ≡ q = tied_key key row.0 e ∙ sym (tied_key q row.0 f) in
      absurd (false≢true (sym g ∙ ap (same_key q) tied ∙ own_key q))
  changed_at q row false true true now was e f g rest =
      let tied : key ≡ row.0 = sym (tied_key q key g) ∙ tied_key q row.0 f in
      absurd (false≢true (sym e ∙ ap (same_key key) (sym tied) ∙ own_key key))

  lookup_changed : (q : Key) (rows : List Row) → lookup (same_key q) (map changed_under rows) ≡ cond (same_key q key) (option_map change (lookup (same_key q) rows)) (lookup (same_key q) rows)
  lookup_changed q [] = by (same_key q key)
    where
      by : (d : Bool) → None ≡ cond d (option_map change None) None
      by true = refl
      by false = refl
  lookup_changed q (row ∷ rows) =
      changed_at q row (same_key key row.0) (same_key q row.0) (same_key q key) (lookup (same_key q) (map changed_under rows)) (lookup (same_key q) rows) refl refl refl (lookup_changed q rows)

  -- a changed record in the place of the one that stood there
  pub row_changed : (r : KeptRecord) (rows : List Row) → IsInOrder rows → lookup (same_key key) rows ≡ Some r → with_row (Some key) (Some (change r)) rows ≡ map changed_under rows
  row_changed r rows order stood =
      same_rows (with_row (Some key) (Some (change r)) rows) (map changed_under rows) (order_inserted key (change r) rows order)
      (subst (λ keys. IsStrictlySortedBy key_cmp keys) (sym (keys_changed rows)) order) (λ q.
      lookup_inserted q key (change r) rows ∙ by q (same_key q key) refl ∙ sym (lookup_changed q rows))
    where
      by : (q : Key) (d : Bool) → same_key q key ≡ d → cond d (Some (change r)) (lookup (same_key q) rows) ≡ cond d (option_map change (lookup (same_key q) rows)) (lookup (same_key q) rows)
      by q true e = ap (option_map change) (sym (ap (λ k. lookup (same_key k) rows) (tied_key q key e) ∙ stood))
      by q false e = refl
