-- An index that tells of the authorities of a state tells of their rows.
use Rattle.std.proofs.Common.{◌≡◌, ◌∙◌, sym, ap, refl, subst, ℕ, ◌<◌, ◌≤◌, arith, List, [], ◌∷◌, length, map, Bool, true, false, ◌&&◌, cond, Option, Some, None}
use Rattle.std.specs.Prelude.{◌==◌, ◌||◌, filter, find, filter_map, nat_lt}
use Rattle.std.specs.Cmp.{unsigned_Decides}
use Rattle.std.specs.List.{AllByRecursion, IsDistinct, cons_option, list_any}
use Rattle.std.specs.List.Sorted.{IsStrictlySortedBy}
use Rattle.std.specs.Map.{keys_of}
use Rattle.std.specs.Option.{option_map_or}
use Rattle.std.specs.Ordering.{is_eq}
use Rattle.std.specs.declared.cmp.Ordering.TheVariants.{Less}
use Rattle.std.proofs.lemmas.Bool.{ltb-true, ltb-false}
use Rattle.std.proofs.lemmas.Cmp.{eq_by_cmp_equiv}
use Rattle.marc_types.specs.declared.form.Form.{Form}
use Rattle.marc_types.specs.declared.key.Key.{Key}
use Rattle.marc_types.specs.Order.{form_cmp_total, key_Decides, key_cmp, key_cmp_total, same_form, same_key}
use Rattle.numbering.specs.Numbers.{is_known, number_of}
use Rattle.numbering.proofs.Numberlaws.{alike, keeps_itself, number_below}
use Rattle.form_index.specs.Forms.{Forms, is_among}
use Rattle.form_index.specs.Index.{Indexed, row_under}
use Rattle.form_index.specs.Order.{has, key_at}
use Rattle.form_index.specs.declared.among.Among.{Among}
use Rattle.form_index.specs.declared.among.Among.TheVariants.{All, Bare}
use Rattle.entry_record.specs.Authority.{Linkable, is_bare}
use Rattle.catalogue_rules.specs.Choice.{has_key}
use Rattle.catalogue_rules.specs.State.{Row, State, fields_of, linkable_authorities, row_linkable}
use Rattle.catalogue_rules.specs.Valid.{IsAscending}
use Rattle.catalogue_rules.proofs.Proper.{proper_linkable}
use Rattle.linking_laws.specs.Tables.{IndexRow, has_established, has_traced, index_row, keys_with}
use Rattle.catalogue_tables.specs.Following.{HasForms, IsRowFor, TellsAuthorities}
use Rattle.catalogue_tables.specs.Rows.{IsBlank, TellsRows, is_headed, is_traced, row_keys, rows_among}
use Rattle.catalogue_tables.proofs.Seams.{key_numbered}

-- ---- the authorities in key order

abbrev pub IsAbove : Key → List Linkable → Type 0
IsAbove key cs = AllByRecursion (λ k. key_cmp key k ≡ Less) (row_keys (map index_row cs))

abbrev pub AreInOrder : List Linkable → Type 0
AreInOrder cs = IsStrictlySortedBy key_cmp (row_keys (map index_row cs))

above_with : (key : Key) (row : Row) (cs : List Linkable) (o : Option Linkable) → row_linkable row ≡ o → key_cmp key row.0 ≡ Less → IsAbove key cs → IsAbove key (cons_option o cs)
above_with key row cs None e less above = above
above_with key row cs (Some c) e less above = (ap (key_cmp key) (proper_linkable row.0 (fields_of row.1) c e).key_is ∙ less, above)

pub above_rows : (key : Key) (rows : List Row) → AllByRecursion (λ k. key_cmp key k ≡ Less) (keys_of rows) → IsAbove key (filter_map row_linkable rows)
above_rows key [] less = tt
above_rows key (row ∷ rows) less = above_with key row (filter_map row_linkable rows) (row_linkable row) refl less.0 (above_rows key rows less.1)

ordered_with : (row : Row) (cs : List Linkable) (o : Option Linkable) → row_linkable row ≡ o → IsAbove row.0 cs → AreInOrder cs → AreInOrder (cons_option o cs)
unfolding IsStrictlySortedBy
ordered_with row cs None e above ordered = ordered
ordered_with row cs (Some c) e above ordered = (subst (λ k. IsAbove k cs) (sym (proper_linkable row.0 (fields_of row.1) c e).key_is) above, ordered)

pub ordered_rows : (rows : List Row) → IsAscending rows → AreInOrder (filter_map row_linkable rows)
unfolding IsStrictlySortedBy
ordered_rows [] s = tt
ordered_rows (row ∷ rows) s = ordered_with row (filter_map row_linkable rows) (row_linkable row) refl (above_rows row.0 rows s.0) (ordered_rows rows s.1)

above_filter : (test : Linkable → Bool) (key : Key) (cs : List Linkable) → IsAbove key cs → IsAbove key (filter test cs)
above_filter test key [] above = tt
above_filter test key (c ∷ cs) above = by (test c) (above_filter test key cs above.1)
  where
    by : (b : Bool) → IsAbove key (filter test cs) → IsAbove key (cond b (c ∷ filter test cs) (filter test cs))
    by true rest = (above.0, rest)
    by false rest = rest

ordered_step : (b : Bool) (c : Linkable) (cs : List Linkable) → IsAbove c.key cs → AreInOrder cs → AreInOrder (cond b (c ∷ cs) cs)
unfolding IsStrictlySortedBy
ordered_step true c cs above ordered = (above, ordered)
ordered_step false c cs above ordered = ordered

ordered_filter : (test : Linkable → Bool) (cs : List Linkable) → AreInOrder cs → AreInOrder (filter test cs)
unfolding IsStrictlySortedBy
ordered_filter test [] ordered = tt
ordered_filter test (c ∷ cs) ordered = ordered_step (test c) c (filter test cs) (above_filter test c.key cs ordered.0) (ordered_filter test cs ordered.1)

-- ---- one authority a key

pub above_none : (key : Key) (cs : List Linkable) → IsAbove key cs → find (has_key key) cs ≡ None
above_none key [] above = refl
above_none key (c ∷ cs) above = ap (λ o. cond (is_eq o) (Some c) (find (has_key key) cs)) above.0 ∙ above_none key cs above.1

above_unlisted : (passes : IndexRow → Bool) (key : Key) (cs : List Linkable) → IsAbove key cs → list_any (same_key key) (keys_with passes (map index_row cs)) ≡ false
above_unlisted passes key [] above = refl
above_unlisted passes key (c ∷ cs) above = by (passes (index_row c)) (above_unlisted passes key cs above.1)
  where
    by : (b : Bool) → list_any (same_key key) (keys_with passes (map index_row cs)) ≡ false
        → list_any (same_key key) (row_keys (cond b (index_row c ∷ filter passes (map index_row cs)) (filter passes (map index_row cs)))) ≡ false
    by true rest = ap (λ o. is_eq o || list_any (same_key key) (keys_with passes (map index_row cs))) above.0 ∙ rest
    by false rest = rest

-- of the authorities in key order, a key is listed where its authority passes
pub listed_once : (passes : IndexRow → Bool) (key : Key) (cs : List Linkable) → AreInOrder cs
    → list_any (same_key key) (keys_with passes (map index_row cs)) ≡ option_map_or (λ c. passes (index_row c)) (find (has_key key) cs) false
unfolding IsStrictlySortedBy
listed_once passes key [] ordered = refl
listed_once passes key (c ∷ cs) ordered = by (same_key key c.key) (passes (index_row c)) refl refl (listed_once passes key cs ordered.1)
  where
    by : (b p : Bool) → same_key key c.key ≡ b → passes (index_row c) ≡ p
        → list_any (same_key key) (keys_with passes (map index_row cs)) ≡ option_map_or (λ d. passes (index_row d)) (find (has_key key) cs) false
        → list_any (same_key key) (row_keys (cond p (index_row c ∷ filter passes (map index_row cs)) (filter passes (map index_row cs))))
        ≡ option_map_or (λ d. passes (index_row d)) (cond b (Some c) (find (has_key key) cs)) false
    by true true same passed rest = ap (λ b. b || list_any (same_key key) (keys_with passes (map index_row cs))) same ∙ sym passed
    by true false same failed rest =
        above_unlisted passes key cs (subst (λ k. IsAbove k cs) (sym ((key_Decides key c.key).0 same)) ordered.0) ∙ sym failed
    by false true differs passed rest = ap (λ b. b || list_any (same_key key) (keys_with passes (map index_row cs))) differs ∙ rest
    by false false differs failed rest = rest

-- among those that pass a test, a key's authority is the one among all, where that passes
found_filter : (test other : Linkable → Bool) (key : Key) (cs : List Linkable) → AreInOrder cs
    → option_map_or other (find (has_key key) (filter test cs)) false ≡ option_map_or (λ c. test c && other c) (find (has_key key) cs) false
unfolding IsStrictlySortedBy
found_filter test other key [] ordered = refl
found_filter test other key (c ∷ cs) ordered = by (same_key key c.key) (test c) refl refl (found_filter test other key cs ordered.1)
  where
    by : (b p : Bool) → same_key key c.key ≡ b → test c ≡ p
        → option_map_or other (find (has_key key) (filter test cs)) false ≡ option_map_or (λ d. test d && other d) (find (has_key key) cs) false
        → option_map_or other (find (has_key key) (cond p (c ∷ filter test cs) (filter test cs))) false
        ≡ option_map_or (λ d. test d && other d) (cond b (Some c) (find (has_key key) cs)) false
    by true true same passed rest =
        ap (λ b. option_map_or other (cond b (Some c) (find (has_key key) (filter test cs))) false) same ∙ ap (λ b. b && other c) (sym passed)
    by true false same failed rest =
        ap (λ o. option_map_or other o false) (above_none key (filter test cs) (above_filter test key cs (subst (λ k. IsAbove k cs) (sym ((key_Decides key c.key).0 same)) ordered.0)))
        ∙ ap (λ b. b && other c) (sym failed)
    by false true differs passed rest = ap (λ b. option_map_or other (cond b (Some c) (find (has_key key) (filter test cs))) false) differs ∙ rest
    by false false differs failed rest = rest

abbrev counts_among : Among → Linkable → Bool
counts_among All c = true
counts_among Bare c = is_bare c

listed_among : (among : Among) (passes : IndexRow → Bool) (key : Key) (all : List Linkable) → AreInOrder all
    → list_any (same_key key) (keys_with passes (rows_among among all)) ≡ option_map_or (λ c. counts_among among c && passes (index_row c)) (find (has_key key) all) false
listed_among All passes key all ordered = listed_once passes key all ordered
listed_among Bare passes key all ordered =
    listed_once passes key (filter is_bare all) (ordered_filter is_bare all ordered) ∙ found_filter is_bare (λ c. passes (index_row c)) key all ordered

-- ---- a row in numbers is that of its authority

pub or_none : (b : Bool) → (b || false) ≡ b
or_none true = refl
or_none false = refl

among_alike : (among : Among) (names : List Form) (c : Linkable) (row : Forms) → HasForms names c.established c.see_from (is_bare c) row → is_among among row ≡ counts_among among c
among_alike All names c row of = refl
among_alike Bare names c row of = of.bare_is

module _ (names : List Form) (among : Among) (form : Form) where
  headed_alike : (o : Option Linkable) (row : Option Forms) → IsRowFor names o row
      → option_map_or (is_headed among (number_of same_form names form)) row false ≡ option_map_or (λ c. counts_among among c && has_established form (index_row c)) o false
  headed_alike None None of = refl
  headed_alike (Some c) (Some row) of =
      let number = number_of same_form names form in
      let here : has number (row.established ∷ []) ≡ same_form form c.established =
      or_none (row.established == number)
      ∙ ap (λ (n : ℕ). n == number) of.established_is.is
      ∙ alike same_form (eq_by_cmp_equiv form_cmp_total) names c.established form of.established_is.known
      ∙ (eq_by_cmp_equiv form_cmp_total).symm c.established form in
      ap (λ b. b && has number (row.established ∷ [])) (among_alike among names c row of) ∙ ap (λ b. counts_among among c && b) here
  headed_alike None (Some row) of = absurd of
  headed_alike (Some c) None of = absurd of

  traced_alike : (o : Option Linkable) (row : Option Forms) → IsRowFor names o row
      → option_map_or (is_traced among (number_of same_form names form)) row false ≡ option_map_or (λ c. counts_among among c && has_traced form (index_row c)) o false
  traced_alike None None of = refl
  traced_alike (Some c) (Some row) of =
      ap (λ b. b && has (number_of same_form names form) row.see_from) (among_alike among names c row of)
      ∙ ap (λ b. counts_among among c && b) (of.see_from_are form)
  traced_alike None (Some row) of = absurd of
  traced_alike (Some c) None of = absurd of

fails : (b : Bool) → (b ≡ true → ⊥) → b ≡ false
fails true h = absurd (h refl)
fails false h = refl

and_none : (a b : Bool) → b ≡ false → (a && b) ≡ false
and_none true b e = e
and_none false b e = refl

module _ (names : List Form) (among : Among) (form : ℕ) (high : length names ≤ form) where
  headed_blank : (o : Option Linkable) (row : Option Forms) → IsRowFor names o row → option_map_or (is_headed among form) row false ≡ false
  headed_blank None None of = refl
  headed_blank (Some c) (Some row) of =
      let low : row.established < length names = subst (λ (n : ℕ). n < length names) (sym of.established_is.is) (number_below same_form names c.established of.established_is.known) in
      and_none (is_among among row) (has form (row.established ∷ []))
      (or_none (row.established == form) ∙ fails (row.established == form) (λ e. let is : row.established ≡ form = (unsigned_Decides row.established form).0 e in omega (arith, is, low, high)))
  headed_blank None (Some row) of = absurd of
  headed_blank (Some c) None of = absurd of

  traced_blank : (o : Option Linkable) (row : Option Forms) → IsRowFor names o row → option_map_or (is_traced among form) row false ≡ false
  traced_blank None None of = refl
  traced_blank (Some c) (Some row) of =
      and_none (is_among among row) (has form row.see_from)
      (fails (has form row.see_from) (λ h. let low : form < length names = of.given form h in omega (arith, low, high)))
  traced_blank None (Some row) of = absurd of
  traced_blank (Some c) None of = absurd of

-- ---- all rows

pub nobody : (names : List Form) (o : Option Linkable) → IsRowFor names o None → o ≡ None
nobody names None of = refl
nobody names (Some c) of = absurd of

none_behind : (key : Key) (c : Linkable) (cs : List Linkable) (b : Bool) → cond b (Some c) (find (has_key key) cs) ≡ None → find (has_key key) cs ≡ None
none_behind key c cs true e = cc
none_behind key c cs false e = e

module _ (keys : List Key) where
  known_one : (c : Linkable) (cs : List Linkable) (b : Bool) → is_known same_key keys c.key ≡ b
      → (is_known same_key keys c.key ≡ false → find (has_key c.key) (c ∷ cs) ≡ None) → b ≡ true
  known_one c cs true known unlisted = refl
  known_one c cs false unknown unlisted =
      let here : find (has_key c.key) (c ∷ cs) ≡ Some c = ap (λ b. cond b (Some c) (find (has_key c.key) cs)) ((eq_by_cmp_equiv key_cmp_total).refl c.key) in
      let gone = unlisted unknown in cc

  known_all : (cs : List Linkable) → ((key : Key) → is_known same_key keys key ≡ false → find (has_key key) cs ≡ None)
      → AllByRecursion (λ key. is_known same_key keys key ≡ true) (row_keys (map index_row cs))
  known_all [] unlisted = tt
  known_all (c ∷ cs) unlisted =
      (known_one c cs (is_known same_key keys c.key) refl (unlisted c.key), known_all cs (λ key unknown. none_behind key c cs (same_key key c.key) (unlisted key unknown)))

  known_filter : (test : Linkable → Bool) (cs : List Linkable) → AllByRecursion (λ key. is_known same_key keys key ≡ true) (row_keys (map index_row cs))
      → AllByRecursion (λ key. is_known same_key keys key ≡ true) (row_keys (map index_row (filter test cs)))
  known_filter test [] known = tt
  known_filter test (c ∷ cs) known = by (test c) (known_filter test cs known.1)
    where
      by : (b : Bool) → AllByRecursion (λ key. is_known same_key keys key ≡ true) (row_keys (map index_row (filter test cs)))
          → AllByRecursion (λ key. is_known same_key keys key ≡ true) (row_keys (map index_row (cond b (c ∷ filter test cs) (filter test cs))))
      by true rest = (known.0, rest)
      by false rest = rest

  known_among : (among : Among) (all : List Linkable) → AllByRecursion (λ key. is_known same_key keys key ≡ true) (row_keys (map index_row all))
      → AllByRecursion (λ key. is_known same_key keys key ≡ true) (row_keys (rows_among among all))
  known_among All all known = known
  known_among Bare all known = known_filter is_bare all known

ordered_among : (among : Among) (all : List Linkable) → AreInOrder all → IsStrictlySortedBy key_cmp (row_keys (rows_among among all))
ordered_among All all ordered = ordered
ordered_among Bare all ordered = ordered_filter is_bare all ordered

module _ (names : List Form) (keys : List Key) (x : Indexed) (all : List Linkable) (distinct : IsDistinct same_key keys) (tells : TellsAuthorities names keys x all) where
  row_at : (n : ℕ) → n < length keys → IsRowFor names (find (has_key (key_at keys n)) all) (row_under n x)
  row_at n low =
      subst (λ (m : ℕ). IsRowFor names (find (has_key (key_at keys n)) all) (row_under m x)) (sym (key_numbered keys n distinct low).is) (tells.each (key_at keys n))

  blank_at : (belongs : Forms → Bool) → ((o : Option Linkable) (row : Option Forms) → IsRowFor names o row → option_map_or belongs row false ≡ false) → IsBlank belongs x
  blank_at belongs blank n = by (nat_lt n (length keys)) refl
    where
      by : (b : Bool) → nat_lt n (length keys) ≡ b → option_map_or belongs (row_under n x) false ≡ false
      by true e = blank (find (has_key (key_at keys n)) all) (row_under n x) (row_at n (ltb-true n (length keys) e))
      by false e = ap (λ o. option_map_or belongs o false) (tells.given n (ltb-false n (length keys) e))

  pub unknown_nobody : (key : Key) → is_known same_key keys key ≡ false → find (has_key key) all ≡ None
  unknown_nobody key unknown =
      let high = (keeps_itself same_key keys).new_number key unknown in
      nobody names (find (has_key key) all) (subst (IsRowFor names (find (has_key key) all)) (tells.given (number_of same_key keys key) high) (tells.each key))

  rows_told : (among : Among) → AreInOrder all → TellsRows among names keys x (rows_among among all)
  rows_told among ordered = record {
    ordered = ordered_among among all ordered;
    known = known_among keys among all (known_all keys all unknown_nobody);
    established = λ form n low.
        headed_alike names among form (find (has_key (key_at keys n)) all) (row_under n x) (row_at n low)
        ∙ sym (listed_among among (has_established form) (key_at keys n) all ordered);
    see_from = λ form n low.
        traced_alike names among form (find (has_key (key_at keys n)) all) (row_under n x) (row_at n low)
        ∙ sym (listed_among among (has_traced form) (key_at keys n) all ordered);
    named = λ form high. blank_at (is_headed among form) (headed_blank names among form high);
    named_too = λ form high. blank_at (is_traced among form) (traced_blank names among form high);
  }

-- the index tells of the rows of a state's authorities
pub tells_rows : (names : List Form) (keys : List Key) (x : Indexed) (s : State) (among : Among) → IsDistinct same_key keys → IsAscending s.authorities
    → TellsAuthorities names keys x (linkable_authorities s) → TellsRows among names keys x (rows_among among (linkable_authorities s))
tells_rows names keys x s among distinct ascend tells = rows_told names keys x (linkable_authorities s) distinct tells among (ordered_rows s.authorities ascend)
