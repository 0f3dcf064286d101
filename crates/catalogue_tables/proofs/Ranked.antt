-- Candidates in numbers are the keys that the rows give, in the same order.
use Rattle.std.proofs.Common.{◌≡◌, ◌∙◌, sym, ap, refl, subst, ℕ, ◌<◌, List, [], ◌∷◌, length, map, Bool, true, false, cond, Option, Some, None}
use Rattle.std.specs.Prelude.{◌==◌, ◌||◌, filter, unwrap_or}
use Rattle.std.specs.Cmp.{unsigned_Decides}
use Rattle.std.specs.List.{AllByRecursion, IsDistinct, list_any}
use Rattle.std.specs.List.Sorted.{IsStrictlySortedBy}
use Rattle.std.specs.Option.{option_map_or}
use Rattle.std.specs.Ordering.{is_eq, ordering_reverse}
use Rattle.std.specs.declared.cmp.Ordering.{Ordering}
use Rattle.std.specs.declared.cmp.Ordering.TheVariants.{Less, Equal, Greater}
use Rattle.std.proofs.lemmas.Cmp.{eq_by_cmp_equiv}
use Rattle.std.proofs.lemmas.Map.Steps.{list_any_congr}
use Rattle.marc_types.specs.declared.form.Form.{Form}
use Rattle.marc_types.specs.declared.key.Key.{Key}
use Rattle.marc_types.specs.Order.{key_Decides, key_cmp, key_cmp_total, same_form, same_key}
use Rattle.numbering.specs.Numbers.{is_known, number_of}
use Rattle.numbering.proofs.Numberlaws.{alike, keeps_itself, number_below}
use Rattle.form_index.specs.Candidates.{IsAnswer}
use Rattle.form_index.specs.Forms.{Forms}
use Rattle.form_index.specs.Index.{Indexed, IsInOrder, row_under}
use Rattle.form_index.specs.Order.{Ascends, has, key_at, number_cmp}
use Rattle.form_index.specs.declared.among.Among.{Among}
use Rattle.form_index.specs.declared.candidates.Candidates.{Candidates}
use Rattle.form_index.specs.declared.candidates.Candidates.TheVariants.{Established, SeeFrom, Nobody}
use Rattle.linking_laws.specs.Tables.{IndexRow, has_established, has_traced, keys_with}
use Rattle.catalogue_tables.specs.Rows.{IsBlank, IsTold, TellsKeys, TellsRows, is_headed, is_traced, row_keys}
use Rattle.catalogue_tables.proofs.Seams.{key_numbered}

-- ---- two lists in key order with the same members

less_all : (k : Key) (xs : List Key) → AllByRecursion (λ y. key_cmp k y ≡ Less) xs → list_any (same_key k) xs ≡ false
less_all k [] all = refl
less_all k (y ∷ ys) all = ap (λ r. is_eq r || list_any (same_key k) ys) all.0 ∙ less_all k ys all.1

above_too : (k x : Key) (xs : List Key) → key_cmp k x ≡ Less → AllByRecursion (λ y. key_cmp x y ≡ Less) xs → AllByRecursion (λ y. key_cmp k y ≡ Less) xs
above_too k x [] less all = tt
above_too k x (y ∷ ys) less all = (key_cmp_total.trans k x y less all.0, above_too k x ys less all.1)

abbrev pub SameMembers : List Key → List Key → Type 0
SameMembers xs ys = (k : Key) → list_any (same_key k) xs ≡ list_any (same_key k) ys

itself : (k : Key) (xs : List Key) → list_any (same_key k) (k ∷ xs) ≡ true
itself k xs = ap (λ b. b || list_any (same_key k) xs) ((eq_by_cmp_equiv key_cmp_total).refl k)

not_less : (x y : Key) (xs ys : List Key) → AllByRecursion (λ z. key_cmp y z ≡ Less) ys → SameMembers (x ∷ xs) (y ∷ ys) → key_cmp x y ≡ Less → true ≡ false
not_less x y xs ys above same less = sym (itself x xs) ∙ same x ∙ less_all x (y ∷ ys) (less, above_too x y ys less above)

heads : (x y : Key) (xs ys : List Key) (r : Ordering) → key_cmp x y ≡ r → AllByRecursion (λ z. key_cmp x z ≡ Less) xs → AllByRecursion (λ z. key_cmp y z ≡ Less) ys
    → SameMembers (x ∷ xs) (y ∷ ys) → x ≡ y
heads x y xs ys Less e above beyond same = let clash = not_less x y xs ys beyond same e in cc
heads x y xs ys Equal e above beyond same = (key_Decides x y).0 (ap is_eq e)
heads x y xs ys Greater e above beyond same =
    let less : key_cmp y x ≡ Less = key_cmp_total.antisymm y x ∙ ap ordering_reverse e in
    let clash = not_less y x ys xs above (λ k. sym (same k)) less in cc

tails : (x : Key) (xs ys : List Key) → AllByRecursion (λ z. key_cmp x z ≡ Less) xs → AllByRecursion (λ z. key_cmp x z ≡ Less) ys
    → SameMembers (x ∷ xs) (x ∷ ys) → SameMembers xs ys
tails x xs ys above beyond same k = by (same_key k x) refl
  where
    by : (b : Bool) → same_key k x ≡ b → list_any (same_key k) xs ≡ list_any (same_key k) ys
    by true e =
        let is : k ≡ x = (key_Decides k x).0 e in
        subst (λ z. list_any (same_key z) xs ≡ list_any (same_key z) ys) (sym is) (less_all x xs above ∙ sym (less_all x ys beyond))
    by false e =
        ap (λ b. b || list_any (same_key k) xs) (sym e) ∙ same k ∙ ap (λ b. b || list_any (same_key k) ys) e

pub same_keys : (xs ys : List Key) → IsStrictlySortedBy key_cmp xs → IsStrictlySortedBy key_cmp ys → SameMembers xs ys → xs ≡ ys
unfolding IsStrictlySortedBy
same_keys [] [] above beyond same = refl
same_keys [] (y ∷ ys) above beyond same = let clash : false ≡ true = same y ∙ itself y ys in cc
same_keys (x ∷ xs) [] above beyond same = let clash : true ≡ false = sym (itself x xs) ∙ same x in cc
same_keys (x ∷ xs) (y ∷ ys) above beyond same =
    let is : x ≡ y = heads x y xs ys (key_cmp x y) refl above.0 beyond.0 same in
    let below : AllByRecursion (λ z. key_cmp x z ≡ Less) ys = subst (λ k. AllByRecursion (λ z. key_cmp k z ≡ Less) ys) (sym is) beyond.0 in
    let level : SameMembers (x ∷ xs) (x ∷ ys) = subst (λ k. SameMembers (x ∷ xs) (k ∷ ys)) (sym is) same in
    let rest : xs ≡ ys = same_keys xs ys above.1 beyond.1 (tails x xs ys above.0 below level) in
    λ i. is i ∷ rest i

-- ---- keys of numbers

all_rising : (keys : List Key) (m : ℕ) (ns : List ℕ) → AllByRecursion (λ n. number_cmp keys m n ≡ Less) ns → AllByRecursion (λ k. key_cmp (key_at keys m) k ≡ Less) (map (key_at keys) ns)
all_rising keys m [] all = tt
all_rising keys m (n ∷ ns) all = (all.0, all_rising keys m ns all.1)

rising_keys : (keys : List Key) (ns : List ℕ) → IsStrictlySortedBy (number_cmp keys) ns → IsStrictlySortedBy key_cmp (map (key_at keys) ns)
unfolding IsStrictlySortedBy
rising_keys keys [] rising = tt
rising_keys keys (n ∷ ns) rising = (all_rising keys n ns rising.0, rising_keys keys ns rising.1)

module _ (keys : List Key) (distinct : IsDistinct same_key keys) where
  pub known_at : (ns : List ℕ) → AllByRecursion (λ n. n < length keys) ns → AllByRecursion (λ k. is_known same_key keys k ≡ true) (map (key_at keys) ns)
  known_at [] low = tt
  known_at (n ∷ ns) low = ((key_numbered keys n distinct low.0).known, known_at ns low.1)

  pub numbered : (ns : List ℕ) (k : Key) → AllByRecursion (λ n. n < length keys) ns → list_any (same_key k) (map (key_at keys) ns) ≡ has (number_of same_key keys k) ns
  numbered [] k low = refl
  numbered (n ∷ ns) k low =
      let at = key_numbered keys n distinct low.0 in
      ap (λ b. b || list_any (same_key k) (map (key_at keys) ns))
      ((eq_by_cmp_equiv key_cmp_total).symm k (key_at keys n)
      ∙ sym (alike same_key (eq_by_cmp_equiv key_cmp_total) keys (key_at keys n) k at.known)
      ∙ ap (λ (m : ℕ). m == number_of same_key keys k) (sym at.is))
      ∙ ap (λ b. (n == number_of same_key keys k) || b) (numbered ns k low.1)

  -- a key is the one that its number stands for
  pub key_back : (k : Key) → is_known same_key keys k ≡ true → same_key k (key_at keys (number_of same_key keys k)) ≡ true
  key_back k known =
      let at = key_numbered keys (number_of same_key keys k) distinct (number_below same_key keys k known) in
      sym (alike same_key (eq_by_cmp_equiv key_cmp_total) keys k (key_at keys (number_of same_key keys k)) known)
      ∙ (unsigned_Decides (number_of same_key keys k) (number_of same_key keys (key_at keys (number_of same_key keys k)))).1 at.is

unknown_one : (keys : List Key) (k x : Key) (b : Bool) → same_key k x ≡ b → is_known same_key keys x ≡ true → is_known same_key keys k ≡ false → b ≡ false
unknown_one keys k x true e known unknown =
    let clash : true ≡ false = sym known ∙ sym (list_any_congr (eq_by_cmp_equiv key_cmp_total) k x keys e) ∙ unknown in cc
unknown_one keys k x false e known unknown = refl

pub none_known : (keys : List Key) (k : Key) (xs : List Key) → AllByRecursion (λ x. is_known same_key keys x ≡ true) xs → is_known same_key keys k ≡ false → list_any (same_key k) xs ≡ false
none_known keys k [] known unknown = refl
none_known keys k (x ∷ xs) known unknown =
    ap (λ b. b || list_any (same_key k) xs) (unknown_one keys k x (same_key k x) refl known.0 unknown) ∙ none_known keys k xs known.1 unknown

-- ---- keys of rows

pub all_with : (P : Key → Type 0) (test : IndexRow → Bool) (rows : List IndexRow) → AllByRecursion P (row_keys rows) → AllByRecursion P (keys_with test rows)
all_with P test [] all = tt
all_with P test (r ∷ rows) all = by (test r) (all_with P test rows all.1)
  where
    by : (b : Bool) → AllByRecursion P (keys_with test rows) → AllByRecursion P (row_keys (cond b (r ∷ filter test rows) (filter test rows)))
    by true rest = (all.0, rest)
    by false rest = rest

sorted_step : (b : Bool) (test : IndexRow → Bool) (r : IndexRow) (rows : List IndexRow) → AllByRecursion (λ k. key_cmp r.key k ≡ Less) (keys_with test rows)
    → IsStrictlySortedBy key_cmp (keys_with test rows) → IsStrictlySortedBy key_cmp (row_keys (cond b (r ∷ filter test rows) (filter test rows)))
unfolding IsStrictlySortedBy
sorted_step true test r rows above rest = (above, rest)
sorted_step false test r rows above rest = rest

pub sorted_with : (test : IndexRow → Bool) (rows : List IndexRow) → IsStrictlySortedBy key_cmp (row_keys rows) → IsStrictlySortedBy key_cmp (keys_with test rows)
unfolding IsStrictlySortedBy
sorted_with test [] sorted = tt
sorted_with test (r ∷ rows) sorted = sorted_step (test r) test r rows (all_with (λ k. key_cmp r.key k ≡ Less) test rows sorted.0) (sorted_with test rows sorted.1)

-- ---- the candidates

pub no_numbers : (keys : List Key) → Ascends keys []
unfolding IsStrictlySortedBy
no_numbers keys = record { known = tt; rising = tt }

module _ (keys : List Key) (x : Indexed) (rows : List IndexRow) (distinct : IsDistinct same_key keys) (sorted : IsStrictlySortedBy key_cmp (row_keys rows))
    (known_rows : AllByRecursion (λ key. is_known same_key keys key ≡ true) (row_keys rows))
    (belongs : Forms → Bool) (passes : IndexRow → Bool) (tells : TellsKeys belongs passes keys x rows) where
  members : (numbers : List ℕ) → ((n : ℕ) → has n numbers ≡ option_map_or belongs (row_under n x) false) → Ascends keys numbers
      → (k : Key) (b : Bool) → is_known same_key keys k ≡ b → list_any (same_key k) (map (key_at keys) numbers) ≡ list_any (same_key k) (keys_with passes rows)
  members numbers scan ascends k true known =
      let n = number_of same_key keys k in
      numbered keys distinct numbers k ascends.known
      ∙ scan n
      ∙ tells n (number_below same_key keys k known)
      ∙ sym (list_any_congr (eq_by_cmp_equiv key_cmp_total) k (key_at keys n) (keys_with passes rows) (key_back keys distinct k known))
  members numbers scan ascends k false unknown =
      none_known keys k (map (key_at keys) numbers) (known_at keys distinct numbers ascends.known) unknown
      ∙ sym (none_known keys k (keys_with passes rows) (all_with (λ key. is_known same_key keys key ≡ true) passes rows known_rows) unknown)

  pub scan_told : (numbers : List ℕ) → ((n : ℕ) → has n numbers ≡ option_map_or belongs (row_under n x) false) → Ascends keys numbers
      → map (key_at keys) numbers ≡ keys_with passes rows
  scan_told numbers scan ascends = same_keys (map (key_at keys) numbers) (keys_with passes rows) (rising_keys keys numbers ascends.rising)
      (sorted_with passes rows sorted) (λ k. members numbers scan ascends k (is_known same_key keys k) refl)

  blank_told : IsBlank belongs x → keys_with passes rows ≡ []
  blank_told blank = sym (scan_told [] (λ n. sym (blank n)) (no_numbers keys))

module _ (among : Among) (names : List Form) (form : Form) (keys : List Key) (x : Indexed) (rows : List IndexRow) (distinct : IsDistinct same_key keys)
    (tells : TellsRows among names keys x rows) where
  headed_blank : IsBlank (is_headed among (number_of same_form names form)) x → keys_with (has_established form) rows ≡ []
  headed_blank blank = blank_told keys x rows distinct tells.ordered tells.known (is_headed among (number_of same_form names form)) (has_established form) (tells.established form) blank

  traced_blank : IsBlank (is_traced among (number_of same_form names form)) x → keys_with (has_traced form) rows ≡ []
  traced_blank blank = blank_told keys x rows distinct tells.ordered tells.known (is_traced among (number_of same_form names form)) (has_traced form) (tells.see_from form) blank

  pub answer_told : IsInOrder keys x → (answer : Candidates) → IsAnswer among (number_of same_form names form) x answer → IsTold keys rows form answer
  answer_told ordered (Established numbers) found = record {
    are = scan_told keys x rows distinct tells.ordered tells.known (is_headed among (number_of same_form names form)) (has_established form) (tells.established form)
        numbers.now found.0.members (found.0.ordered keys ordered);
    given = (found.0.ordered keys ordered).known;
    some = found.1;
  }
  answer_told ordered (SeeFrom numbers) found = (
    headed_blank found.0,
    record {
      are = scan_told keys x rows distinct tells.ordered tells.known (is_traced among (number_of same_form names form)) (has_traced form) (tells.see_from form)
          numbers.now found.1.members (found.1.ordered keys ordered);
      given = (found.1.ordered keys ordered).known;
      some = found.2;
    },
  )
  answer_told ordered Nobody found = (headed_blank found.0, traced_blank found.1)

  pub nobody_told : is_known same_form names form ≡ false → IsTold keys rows form Nobody
  nobody_told unknown =
      let high = (keeps_itself same_form names).new_number form unknown in
      (headed_blank (tells.named (number_of same_form names form) high), traced_blank (tells.named_too (number_of same_form names form) high))

-- ---- what a number that is there, or isn't, says

pub known_number : (b : Bool) (n m : ℕ) → Some n ≡ cond b (Some m) None → n ≡ m
known_number true n m e = ap (λ (o : Option ℕ). unwrap_or o n) e
known_number false n m e = cc

pub unknown_number : (b : Bool) (m : ℕ) → None ≡ cond b (Some m) None → b ≡ false
unknown_number true m e = cc
unknown_number false m e = refl
