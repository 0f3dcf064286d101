-- Two histories that agree part by part, of one key each, have one state.
use Rattle.std.proofs.Common.{◌≡◌, Bool, true, false, true≢false, cond, List, [], ◌∷◌, refl, sym, ap, ◌∙◌}
use Rattle.std.specs.List.Sorted.{IsStrictlySortedBy}
use Rattle.std.specs.Prelude.{All}
use Rattle.std.specs.List.{AllByRecursion}
use Rattle.std.specs.Map.{keys_of}
use Rattle.std.specs.Ordering.{is_eq, ordering_reverse}
use Rattle.std.specs.declared.cmp.Ordering.{Ordering}
use Rattle.std.specs.declared.cmp.Ordering.TheVariants.{Less, Equal, Greater}
use Rattle.marc_types.specs.Order.{key_cmp, key_cmp_total, key_Decides, same_key}
use Rattle.marc_types.specs.declared.key.Key.{Key}
use Rattle.marc_types.specs.declared.entry.Entry.{Entry}
use Rattle.entry_record.specs.History.{IsAdmitted}
use Rattle.catalogue_rules.specs.State.{Row, State}
use Rattle.catalogue_rules.specs.Settle.{state_after, state_of}
use Rattle.catalogue_rules.specs.Valid.{IsAscending}
use Rattle.catalogue_rules.proofs.States.{every_state_valid}
use Rattle.catalogue_parts.specs.Parts.{rows_in, AgreeByKeys}
use Rattle.catalogue_parts.proofs.Cut.{part_cut}

own_key : (key : Key) → same_key key key ≡ true
own_key key = (key_Decides key key).1 refl

-- no key of these is the key
none_of : (key : Key) (rows : List Row) → AllByRecursion (λ y. key_cmp key y ≡ Less) (keys_of rows) → rows_in (same_key key) rows ≡ []
none_of key [] below = refl
none_of key (row ∷ rows) below = ap (λ b. cond b (row ∷ rows_in (same_key key) rows) (rows_in (same_key key) rows)) (ap is_eq below.0) ∙ none_of key rows below.1

below_all : (key : Key) (row : Row) (rows : List Row) → key_cmp key row.0 ≡ Less → AllByRecursion (λ y. key_cmp row.0 y ≡ Less) (keys_of rows) →
    AllByRecursion (λ y. key_cmp key y ≡ Less) (keys_of (row ∷ rows))
below_all key row rows less below = (less, later rows below)
  where
    later : (others : List Row) → AllByRecursion (λ y. key_cmp row.0 y ≡ Less) (keys_of others) → AllByRecursion (λ y. key_cmp key y ≡ Less) (keys_of others)
    later [] a = tt
    later (other ∷ others) a = (key_cmp_total.trans key row.0 other.0 less a.0, later others a.1)

abbrev Agree : List Row → List Row → Type 0
Agree xs ys = (key : Key) → rows_in (same_key key) xs ≡ rows_in (same_key key) ys

first_in : (row : Row) (rows : List Row) → rows_in (same_key row.0) (row ∷ rows) ≡ row ∷ rows_in (same_key row.0) rows
first_in row rows = ap (λ b. cond b (row ∷ rows_in (same_key row.0) rows) (rows_in (same_key row.0) rows)) (own_key row.0)

abbrev is_some_row : List Row → Bool
is_some_row [] = false
is_some_row (row ∷ rows) = true

-- a row that stands in front of all others' keys isn't among them
apart : {A : Type 0} (x : Row) (xs ys : List Row) → Agree (x ∷ xs) ys → AllByRecursion (λ y. key_cmp x.0 y ≡ Less) (keys_of ys) → A
apart x xs ys agree below = absurd (true≢false (ap is_some_row (sym (first_in x xs) ∙ agree x.0 ∙ none_of x.0 ys below)))

abbrev head_or : Row → List Row → Row
head_or row [] = row
head_or row (first ∷ rows) = first

tails_agree : (x y : Row) (xs ys : List Row) → x ≡ y → Agree (x ∷ xs) (y ∷ ys) → AllByRecursion (λ k. key_cmp x.0 k ≡ Less) (keys_of xs) →
    AllByRecursion (λ k. key_cmp y.0 k ≡ Less) (keys_of ys) → Agree xs ys
tails_agree x y xs ys same agree first second key = at (same_key key x.0) refl
  where
    at : (b : Bool) → same_key key x.0 ≡ b → rows_in (same_key key) xs ≡ rows_in (same_key key) ys
    at true e =
        let key_is : key ≡ x.0 = (key_Decides key x.0).0 e in
        let other : key ≡ y.0 = key_is ∙ ap (λ (row : Row). row.0) same in
        ap (λ k. rows_in (same_key k) xs) key_is ∙ none_of x.0 xs first ∙ sym (none_of y.0 ys second) ∙ ap (λ k. rows_in (same_key k) ys) (sym other)
    at false e =
        let there : same_key key y.0 ≡ false = ap (λ (row : Row). same_key key row.0) (sym same) ∙ e in
        sym (ap (λ b. cond b (x ∷ rows_in (same_key key) xs) (rows_in (same_key key) xs)) e) ∙ agree key
        ∙ ap (λ b. cond b (y ∷ rows_in (same_key key) ys) (rows_in (same_key key) ys)) there

same_rows : (xs ys : List Row) → IsAscending xs → IsAscending ys → Agree xs ys → xs ≡ ys
unfolding IsStrictlySortedBy
same_rows [] [] s t agree = refl
same_rows [] (y ∷ ys) s t agree = apart y ys [] (λ key. sym (agree key)) tt
same_rows (x ∷ xs) [] s t agree = apart x xs [] agree tt
same_rows (x ∷ xs) (y ∷ ys) s t agree = at (key_cmp x.0 y.0) refl (λ tails. same_rows xs ys s.1 t.1 tails)
  where
    at : (o : Ordering) → key_cmp x.0 y.0 ≡ o → (Agree xs ys → xs ≡ ys) → x ∷ xs ≡ y ∷ ys
    at Less e ih = apart x xs (y ∷ ys) agree (below_all x.0 y ys e t.0)
    at Greater e ih =
        let turned : key_cmp y.0 x.0 ≡ Less = key_cmp_total.antisymm y.0 x.0 ∙ ap ordering_reverse e in
        apart y ys (x ∷ xs) (λ key. sym (agree key)) (below_all y.0 x xs turned s.0)
    at Equal e ih =
        let key_is : x.0 ≡ y.0 = (key_Decides x.0 y.0).0 (ap is_eq e) in
        let here = sym (first_in x xs) ∙ agree x.0 ∙ ap (λ b. cond b (y ∷ rows_in (same_key x.0) ys) (rows_in (same_key x.0) ys)) (ap is_eq e) in
        let same : x ≡ y = ap (head_or x) here in
        let rest = ih (tails_agree x y xs ys same agree s.0 t.0) in
        λ i. same i ∷ rest i

-- they have one state
pub same_state : (one other : List Entry) → All IsAdmitted one → All IsAdmitted other → AgreeByKeys one other → state_of one ≡ state_of other
same_state one other a b agree =
    let parts = λ (key : Key). sym (part_cut (same_key key) one a) ∙ ap state_after (agree key) ∙ part_cut (same_key key) other b in
    let authorities = ap (λ (s : State). s.authorities) (parts some_key) in
    let rows = same_rows (state_of one).bibliographic (state_of other).bibliographic (every_state_valid one a).bibliographic_ascend (every_state_valid other b).bibliographic_ascend
    (λ key. ap (λ (s : State). s.bibliographic) (parts key)) in
    λ i. record { authorities = authorities i; bibliographic = rows i }
  where
    some_key : Key
    some_key = record { code = []; number = [] }
