-- Authorities that share a form, and those under whose heading one is found, by the index in numbers.
use Rattle.std.proofs.Common.{◌≡◌, ◌∙◌, sym, ap, refl, subst, ℕ, ◌+◌, ◌<◌, Bool, true, false, cond, List, [], ◌∷◌, length, map, take, get_or, Option, Some, None}
use Rattle.std.specs.Prelude.{◌==◌, ◌&&◌, ◌||◌, not, filter, find, option_and_then, slice_get}
use Rattle.std.specs.Borrow.{Bor}
use Rattle.std.specs.BTreeSet.{insert_key}
use Rattle.std.specs.Cmp.{unsigned_Decides}
use Rattle.std.specs.List.{AllByRecursion, IsDistinct, list_any}
use Rattle.std.specs.List.Sorted.{IsStrictlySortedBy}
use Rattle.std.specs.Option.{option_map_or, option_to_list}
use Rattle.std.specs.Ordering.{is_eq, match_ordering}
use Rattle.std.specs.declared.cmp.Ordering.{Ordering}
use Rattle.std.specs.declared.cmp.Ordering.TheVariants.{Less, Equal, Greater}
use Rattle.std.proofs.lemmas.List.Folds.{list_any-append, list_any_more}
use Rattle.marc_types.specs.declared.form.Form.{Form}
use Rattle.marc_types.specs.declared.key.Key.{Key}
use Rattle.marc_types.specs.Order.{key_Decides, key_cmp, same_form, same_key}
use Rattle.numbering.specs.Numbers.{is_known, number_of}
use Rattle.form_index.specs.Candidates.{IsAnswer}
use Rattle.form_index.specs.Forms.{Forms}
use Rattle.form_index.specs.Index.{Indexed, IsInOrder, row_under}
use Rattle.form_index.specs.Order.{has}
use Rattle.form_index.specs.declared.among.Among.TheVariants.{All}
use Rattle.form_index.specs.declared.candidates.Candidates.{Candidates}
use Rattle.form_index.specs.declared.candidates.Candidates.TheVariants.{Established, SeeFrom, Nobody}
use Rattle.entry_record.specs.Authority.{Linkable, is_bare}
use Rattle.catalogue_rules.specs.Choice.{has_key, is_established, is_see_from_form, keys_of_linkable}
use Rattle.catalogue_rules.specs.State.{State, linkable_authorities}
use Rattle.catalogue_rules.proofs.Elements.{each_anything, find_found}
use Rattle.linking_laws.specs.Tables.{IndexRow, has_established, index_row, keys_with}
use Rattle.catalogue_tables.specs.Choosing.{TellsState, number_known}
use Rattle.catalogue_tables.specs.Following.{HasForms, IsRowFor}
use Rattle.catalogue_tables.specs.Lent.{keys_at, keys_of as keys_numbered}
use Rattle.catalogue_tables.specs.Rows.{IsBlank, is_headed, rows_among}
use Rattle.catalogue_tables.specs.Sharing.{AreHeaded, established_in, is_found_under, is_headed_by, is_headed_by_any, keys_crossing, keys_sharing, shown_keys}
use Rattle.catalogue_tables.proofs.Picked.{keys_among, keys_found, keys_of}
use Rattle.catalogue_tables.proofs.Ranked.{known_at, no_numbers, none_known, numbered, same_keys, scan_told, sorted_with}
use Rattle.catalogue_tables.proofs.Rowed.{AreInOrder, listed_once, nobody, or_none, ordered_rows, tells_rows, unknown_nobody}
use Rattle.catalogue_tables.proofs.Seams.{or_assoc}
use Rattle.catalogue_tables.proofs.Standings.{given_keys, keys_next}

-- ---- keys in a set

abbrev lent_cmp : Bor Key → Bor Key → Ordering
lent_cmp a b = key_cmp a.now b.now

put_first : (a b : Bool) → (a || b) ≡ (b || (a || false))
put_first true true = refl
put_first true false = refl
put_first false true = refl
put_first false false = refl

there_already : (a b : Bool) → (a || b) ≡ ((a || b) || (a || false))
there_already true b = refl
there_already false true = refl
there_already false false = refl

pub inserted : (xs : List (Bor Key)) (key : Bor Key) (k : Key)
    → list_any (same_key k) (shown_keys (insert_key lent_cmp xs key)) ≡ (list_any (same_key k) (shown_keys xs) || list_any (same_key k) (key.now ∷ []))
inserted [] key k = refl
inserted (x ∷ xs) key k = by (key_cmp key.now x.now) refl (inserted xs key k)
  where
    by : (r : Ordering) → key_cmp key.now x.now ≡ r
        → list_any (same_key k) (shown_keys (insert_key lent_cmp xs key)) ≡ (list_any (same_key k) (shown_keys xs) || list_any (same_key k) (key.now ∷ []))
        → list_any (same_key k) (shown_keys (match_ordering r (key ∷ x ∷ xs) (x ∷ xs) (x ∷ insert_key lent_cmp xs key)))
        ≡ (list_any (same_key k) (shown_keys (x ∷ xs)) || list_any (same_key k) (key.now ∷ []))
    by Less e rest = put_first (same_key k key.now) (list_any (same_key k) (shown_keys (x ∷ xs)))
    by Equal e rest =
        let is : key.now ≡ x.now = (key_Decides key.now x.now).0 (ap is_eq e) in
        there_already (same_key k x.now) (list_any (same_key k) (shown_keys xs))
        ∙ ap (λ (y : Key). list_any (same_key k) (shown_keys (x ∷ xs)) || list_any (same_key k) (y ∷ [])) (sym is)
    by Greater e rest =
        ap (λ b. same_key k x.now || b) rest
        ∙ sym (or_assoc (same_key k x.now) (list_any (same_key k) (shown_keys xs)) (list_any (same_key k) (key.now ∷ [])))

-- one more key of a list is in the set
pub added_next : (keys : List Key) (numbers : List ℕ) (i d : ℕ) (start found more : List Key) (k : Key) → i < length numbers
    → list_any (same_key k) found ≡ (list_any (same_key k) start || list_any (same_key k) (keys_at keys (take i numbers)))
    → list_any (same_key k) more ≡ (list_any (same_key k) found || list_any (same_key k) (option_to_list (slice_get keys (get_or numbers i d))))
    → list_any (same_key k) more ≡ (list_any (same_key k) start || list_any (same_key k) (keys_at keys (take (i + 1) numbers)))
added_next keys numbers i d start found more k low before put =
    let one = option_to_list (slice_get keys (get_or numbers i d)) in
    put
    ∙ ap (λ b. b || list_any (same_key k) one) before
    ∙ or_assoc (list_any (same_key k) start) (list_any (same_key k) (keys_at keys (take i numbers))) (list_any (same_key k) one)
    ∙ ap (λ b. list_any (same_key k) start || b)
    (sym (ap (list_any (same_key k)) (keys_next keys numbers i d low) ∙ list_any-append (same_key k) (keys_at keys (take i numbers)) one))

above_lent : (x : Bor Key) (xs : List (Bor Key)) → AllByRecursion (λ y. lent_cmp x y ≡ Less) xs → AllByRecursion (λ k. key_cmp x.now k ≡ Less) (shown_keys xs)
above_lent x [] all = tt
above_lent x (y ∷ ys) all = (all.0, above_lent x ys all.1)

pub lent_sorted : (xs : List (Bor Key)) → IsStrictlySortedBy lent_cmp xs → IsStrictlySortedBy key_cmp (shown_keys xs)
unfolding IsStrictlySortedBy
lent_sorted [] sorted = tt
lent_sorted (x ∷ xs) sorted = (above_lent x xs sorted.0, lent_sorted xs sorted.1)

-- ---- a loop over a set that passes one key over

abbrev pub all_but : Key → List (Bor Key) → List Key
all_but own xs = filter (λ k. not (same_key own k)) (shown_keys xs)

-- ---- the numbers of a form

nobody_headed : (form : ℕ) (x : Indexed) → IsBlank (is_headed All form) x → AreHeaded form x []
nobody_headed form x blank = record { members = λ n. sym (blank n); ordered = λ keys ordered. no_numbers keys }

pub headed_in : (form : ℕ) (x : Indexed) (answer : Candidates) → IsAnswer All form x answer → AreHeaded form x (established_in answer)
headed_in form x (Established numbers) found = record { members = found.0.members; ordered = found.0.ordered }
headed_in form x (SeeFrom numbers) found = nobody_headed form x found.0
headed_in form x Nobody found = nobody_headed form x found.0

module _ (keys : List Key) (x : Indexed) (distinct : IsDistinct same_key keys) (ordered : IsInOrder keys x) (form : ℕ) (numbers : List ℕ)
    (scan : AreHeaded form x numbers) where
  scan_at : (k : Key) (b : Bool) → is_known same_key keys k ≡ b → list_any (same_key k) (keys_numbered keys numbers)
      ≡ option_map_or (is_headed All form) (option_and_then (λ n. row_under n x) (cond b (Some (number_of same_key keys k)) None)) false
  scan_at k true known = numbered keys distinct numbers k (scan.ordered keys ordered).known ∙ scan.members (number_of same_key keys k)
  scan_at k false unknown = none_known keys k (keys_numbered keys numbers) (known_at keys distinct numbers (scan.ordered keys ordered).known) unknown

  pub scan_has : (k : Key) → list_any (same_key k) (keys_at keys numbers) ≡ is_headed_by keys x k form
  scan_has k = ap (list_any (same_key k)) (given_keys keys numbers (scan.ordered keys ordered).known) ∙ scan_at k (is_known same_key keys k) refl

-- one more form is looked at
pub headed_next : (keys : List Key) (x : Indexed) (forms : List ℕ) (i d : ℕ) (found more numbers : List Key) (k : Key) → i < length forms
    → list_any (same_key k) found ≡ is_headed_by_any keys x (take i forms) k
    → list_any (same_key k) more ≡ (list_any (same_key k) found || list_any (same_key k) numbers)
    → list_any (same_key k) numbers ≡ is_headed_by keys x k (get_or forms i d)
    → list_any (same_key k) more ≡ is_headed_by_any keys x (take (i + 1) forms) k
headed_next keys x forms i d found more numbers k low before put own =
    put ∙ ap (λ b. b || list_any (same_key k) numbers) before ∙ ap (λ b. is_headed_by_any keys x (take i forms) k || b) own
    ∙ sym (list_any_more (is_headed_by keys x k) forms i d low)

-- ---- a key's row is that of its authority

abbrev pub row_at : List Key → Indexed → Key → Option Forms
row_at keys x key = option_and_then (λ number. row_under number x) (number_known keys key)

module _ (names : List Form) (keys : List Key) (x : Indexed) (s : State) (tells : TellsState names keys x s) where
  row_by : (key : Key) (b : Bool) → is_known same_key keys key ≡ b
      → IsRowFor names (find (has_key key) (linkable_authorities s)) (option_and_then (λ n. row_under n x) (cond b (Some (number_of same_key keys key)) None))
  row_by key true known = tells.tells.each key
  row_by key false unknown =
      subst (λ o. IsRowFor names o None) (sym (unknown_nobody names keys x (linkable_authorities s) tells.distinct tells.tells key unknown)) tt

  row_is : (key : Key) → IsRowFor names (find (has_key key) (linkable_authorities s)) (row_at keys x key)
  row_is key = row_by key (is_known same_key keys key) refl

  pub none_sharing : (key : Key) → None ≡ row_at keys x key → [] ≡ keys_sharing key (linkable_authorities s)
  none_sharing key none =
      let gone = nobody names (find (has_key key) (linkable_authorities s)) (subst (IsRowFor names (find (has_key key) (linkable_authorities s))) (sym none) (row_is key)) in
      sym (ap (λ o. option_map_or (λ c. keys_of_linkable (filter (is_established c.established) (linkable_authorities s))) o []) gone)

  pub none_crossing : (key : Key) → None ≡ row_at keys x key → [] ≡ keys_crossing key (linkable_authorities s)
  none_crossing key none =
      let gone = nobody names (find (has_key key) (linkable_authorities s)) (subst (IsRowFor names (find (has_key key) (linkable_authorities s))) (sym none) (row_is key)) in
      sym (ap (λ o. option_map_or (λ c. keys_of_linkable (filter (is_found_under c) (linkable_authorities s))) o []) gone)

  -- ---- those that share its form

  sharing_of : (row : Forms) (numbers : List ℕ) → AreHeaded row.established x numbers → (o : Option Linkable) → IsRowFor names o (Some row)
      → keys_at keys numbers ≡ option_map_or (λ c. keys_of_linkable (filter (is_established c.established) (linkable_authorities s))) o []
  sharing_of row numbers scan None of = absurd of
  sharing_of row numbers scan (Some c) of =
      let all = linkable_authorities s in
      let rows = tells_rows names keys x s All tells.distinct tells.in_order.ascend tells.tells in
      let ascends = scan.ordered keys tells.tells.ordered in
      let number = of.established_is.is in
      given_keys keys numbers ascends.known
      ∙ scan_told keys x (rows_among All all) tells.distinct rows.ordered rows.known (is_headed All (number_of same_form names c.established)) (has_established c.established)
      (rows.established c.established) numbers
      (subst (λ (n : ℕ). (m : ℕ) → has m numbers ≡ option_map_or (is_headed All n) (row_under m x) false) number scan.members) ascends
      ∙ keys_among All (has_established c.established) all

  pub sharing_is : (key : Key) (row : Forms) (numbers : List ℕ) → Some row ≡ row_at keys x key → AreHeaded row.established x numbers
      → keys_at keys numbers ≡ keys_sharing key (linkable_authorities s)
  sharing_is key row numbers there scan =
      sharing_of row numbers scan (find (has_key key) (linkable_authorities s))
      (subst (IsRowFor names (find (has_key key) (linkable_authorities s))) (sym there) (row_is key))

  -- ---- those under whose heading it is found

  turned : (m n : ℕ) (b : Bool) → (n == m) ≡ b → (m == n) ≡ b
  turned m n true e = (unsigned_Decides m n).1 (sym ((unsigned_Decides n m).0 e))
  turned m n false e = by (m == n) refl
    where
      by : (b : Bool) → (m == n) ≡ b → b ≡ false
      by true f = let clash : true ≡ false = sym ((unsigned_Decides n m).1 (sym ((unsigned_Decides m n).0 f))) ∙ e in cc
      by false f = refl

  among_forms : (m : ℕ) (forms : List ℕ) → list_any (λ form. has form (m ∷ [])) forms ≡ has m forms
  among_forms m [] = refl
  among_forms m (n ∷ forms) =
      ap (λ b. b || list_any (λ form. has form (m ∷ [])) forms) (or_none (m == n) ∙ turned m n (n == m) refl) ∙ ap (λ b. (n == m) || b) (among_forms m forms)

  no_form : (forms : List ℕ) → list_any (λ (form : ℕ). false) forms ≡ false
  no_form [] = refl
  no_form (n ∷ forms) = no_form forms

  -- the forms of an authority's row are headings of another
  headed_of : (c : Linkable) (row : Forms) → HasForms names c.established c.see_from (is_bare c) row
      → (o : Option Linkable) (other : Option Forms) → IsRowFor names o other
      → list_any (λ form. option_map_or (is_headed All form) other false) row.see_from ≡ option_map_or (λ y. is_see_from_form y.established c) o false
  headed_of c row of None None at = no_form row.see_from
  headed_of c row of (Some y) (Some other) at =
      among_forms other.established row.see_from
      ∙ ap (λ (n : ℕ). has n row.see_from) at.established_is.is
      ∙ of.see_from_are y.established
  headed_of c row of None (Some other) at = absurd at
  headed_of c row of (Some y) None at = absurd at

  -- of some authorities, the keys that pass
  keys_but : (own : Key) (p : Linkable → Bool) (cs : List Linkable)
      → filter (λ k. not (same_key own k)) (keys_of (filter p cs)) ≡ keys_of (filter (λ y. not (same_key own y.key) && p y) cs)
  keys_but own p [] = refl
  keys_but own p (y ∷ ys) = by (p y) (not (same_key own y.key)) refl (keys_but own p ys)
    where
      by : (passes other : Bool) → not (same_key own y.key) ≡ other → filter (λ k. not (same_key own k)) (keys_of (filter p ys)) ≡ keys_of (filter (λ z. not (same_key own z.key) && p z) ys)
          → filter (λ k. not (same_key own k)) (keys_of (cond passes (y ∷ filter p ys) (filter p ys)))
          ≡ keys_of (cond (other && passes) (y ∷ filter (λ z. not (same_key own z.key) && p z) ys) (filter (λ z. not (same_key own z.key) && p z) ys))
      by true true is rest = ap (λ b. cond b (y.key ∷ filter (λ k. not (same_key own k)) (keys_of (filter p ys))) (filter (λ k. not (same_key own k)) (keys_of (filter p ys)))) is
          ∙ ap (λ (l : List Key). y.key ∷ l) rest
      by true false is rest = ap (λ b. cond b (y.key ∷ filter (λ k. not (same_key own k)) (keys_of (filter p ys))) (filter (λ k. not (same_key own k)) (keys_of (filter p ys)))) is
          ∙ rest
      by false true is rest = rest
      by false false is rest = rest

  crossing_of : (key : Key) (row : Forms) (found : List Key) → IsStrictlySortedBy key_cmp found → ((k : Key) → list_any (same_key k) found ≡ is_headed_by_any keys x row.see_from k)
      → (o : Option Linkable) → find (has_key key) (linkable_authorities s) ≡ o → IsRowFor names o (Some row)
      → filter (λ k. not (same_key key k)) found ≡ option_map_or (λ c. keys_of_linkable (filter (is_found_under c) (linkable_authorities s))) o []
  crossing_of key row found sorted members None there of = absurd of
  crossing_of key row found sorted members (Some c) there of =
      let all = linkable_authorities s in
      let order : AreInOrder all = ordered_rows s.authorities tells.in_order.ascend in
      let test : IndexRow → Bool = (λ r. list_any (same_form r.established) c.see_from) in
      let own : same_key key c.key ≡ true = (find_found (λ (y : Linkable). Unit {0}) (has_key key) all c (each_anything all) there).1 in
      let is : key ≡ c.key = (key_Decides key c.key).0 own in
      let listed : found ≡ keys_with test (map index_row all) =
      same_keys found (keys_with test (map index_row all)) sorted (sorted_with test (map index_row all) order)
      (λ k. members k ∙ headed_of c row of (find (has_key k) all) (row_at keys x k) (row_is k) ∙ sym (listed_once test k all order)) in
      ap (filter (λ k. not (same_key key k))) (listed ∙ keys_found test all)
      ∙ keys_but key (λ y. is_see_from_form y.established c) all
      ∙ ap (λ (k : Key). keys_of (filter (λ y. not (same_key k y.key) && is_see_from_form y.established c) all)) is

  pub crossing_is : (key : Key) (row : Forms) (found : List Key) → Some row ≡ row_at keys x key → IsStrictlySortedBy key_cmp found
      → ((k : Key) → list_any (same_key k) found ≡ is_headed_by_any keys x row.see_from k)
      → filter (λ k. not (same_key key k)) found ≡ keys_crossing key (linkable_authorities s)
  crossing_is key row found there sorted members =
      crossing_of key row found sorted members (find (has_key key) (linkable_authorities s)) refl
      (subst (IsRowFor names (find (has_key key) (linkable_authorities s))) (sym there) (row_is key))
