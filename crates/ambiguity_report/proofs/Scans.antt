-- Lines of authorities, row by row: each row's authority is found by its key.
use Rattle.std.proofs.Common.{◌≡◌, ℕ, ◌+◌, ◌<◌, Bool, true, false, cond, List, [], ◌∷◌, ◌++◌, length, map, drop, get_or, Option, Some, None, refl, sym, ap, ◌∙◌}
use Rattle.std.specs.Prelude.{filter, filter_map, find}
use Rattle.std.specs.Borrow.{Bor}
use Rattle.std.specs.List.{AllByRecursion, cons_option, flat_map}
use Rattle.std.specs.List.Sorted.{IsStrictlySortedBy}
use Rattle.std.specs.Map.{keys_of}
use Rattle.std.specs.Option.{option_map_or}
use Rattle.std.specs.Ordering.{is_eq, ordering_reverse}
use Rattle.std.specs.declared.cmp.Ordering.TheVariants.{Less}
use Rattle.std.proofs.lemmas.Cmp.{eq_by_cmp_equiv}
use Rattle.outside.proofs.Fronts.{drop_next}
use Rattle.marc_types.specs.declared.key.Key.{Key}
use Rattle.numbered_store.specs.declared.kept.StoredRecord.{StoredRecord}
use Rattle.marc_types.specs.Order.{key_cmp, key_cmp_total, same_key}
use Rattle.entry_record.specs.Authority.{Linkable}
use Rattle.catalogue_rules.specs.Choice.{has_key, keys_of_linkable}
use Rattle.catalogue_rules.specs.Output.{cross_line, cross_lines, keys_sharing_form_of, shared_line, shared_lines}
use Rattle.catalogue_rules.specs.State.{Row, State, fields_of, linkable_authorities, row_linkable}
use Rattle.catalogue_rules.specs.Valid.{IsAscending}
use Rattle.catalogue_rules.proofs.Elements.{Each}
use Rattle.catalogue_rules.proofs.Proper.{proper_linkable}
use Rattle.catalogue_tables.specs.Sharing.{is_found_under, keys_crossing, keys_sharing, shown_keys}
use Rattle.catalogue_tables.proofs.Rowed.{above_none, above_rows}
use Rattle.ambiguity_report.specs.Beside.{cross_text}
use Rattle.numbered_store.specs.Kept.{kept_record, shown_row}

-- ---- each row's authority

abbrev IsFoundAt : List Linkable → Row → Type 0
IsFoundAt all row = find (has_key row.0) all ≡ row_linkable row

later : (j k : Key) → key_cmp j k ≡ Less → same_key k j ≡ false
later j k less = ap is_eq (key_cmp_total.antisymm k j ∙ ap ordering_reverse less)

own_found : (row : Row) (rows : List Row) (o : Option Linkable) → row_linkable row ≡ o → AllByRecursion (λ k. key_cmp row.0 k ≡ Less) (keys_of rows)
    → find (has_key row.0) (cons_option o (filter_map row_linkable rows)) ≡ o
own_found row rows None e above = above_none row.0 (filter_map row_linkable rows) (above_rows row.0 rows above)
own_found row rows (Some c) e above =
    let is : same_key row.0 c.key ≡ true = ap (same_key row.0) ((proper_linkable row.0 (fields_of row.1) c e).key_is) ∙ (eq_by_cmp_equiv key_cmp_total).refl row.0 in
    ap (λ b. cond b (Some c) (find (has_key row.0) (filter_map row_linkable rows))) is

found_behind : (row other : Row) (all : List Linkable) (o : Option Linkable) → row_linkable row ≡ o → key_cmp row.0 other.0 ≡ Less → IsFoundAt all other
    → IsFoundAt (cons_option o all) other
found_behind row other all None e less found = found
found_behind row other all (Some c) e less found =
    let differs : same_key other.0 c.key ≡ false = ap (same_key other.0) ((proper_linkable row.0 (fields_of row.1) c e).key_is) ∙ later row.0 other.0 less in
    ap (λ b. cond b (Some c) (find (has_key other.0) all)) differs ∙ found

all_behind : (row : Row) (rows : List Row) (all : List Linkable) → AllByRecursion (λ k. key_cmp row.0 k ≡ Less) (keys_of rows) → Each (IsFoundAt all) rows
    → Each (IsFoundAt (cons_option (row_linkable row) all)) rows
all_behind row [] all above found = tt
all_behind row (other ∷ rows) all above found =
    (found_behind row other all (row_linkable row) refl above.0 found.0, all_behind row rows all above.1 found.1)

each_found : (rows : List Row) → IsAscending rows → Each (IsFoundAt (filter_map row_linkable rows)) rows
unfolding IsStrictlySortedBy
each_found [] ascends = tt
each_found (row ∷ rows) ascends =
    (own_found row rows (row_linkable row) refl ascends.0, all_behind row rows (filter_map row_linkable rows) ascends.0 (each_found rows ascends.1))

-- ---- lines of all authorities are lines of all rows

-- lines of a key, by its authority, are those of the authority; without one there is none
record AreLinesOf (f : Linkable → List ℕ) (g : Key → Option Linkable → List ℕ) : Type 0 where
  of_some : (c : Linkable) → g c.key (Some c) ≡ f c
  of_none : (key : Key) → g key None ≡ []

module _ (f : Linkable → List ℕ) (g : Key → Option Linkable → List ℕ) (are : AreLinesOf f g) where
  one_row : (row : Row) (rest : List Linkable) (o : Option Linkable) → row_linkable row ≡ o → flat_map f (cons_option o rest) ≡ g row.0 o ++ flat_map f rest
  one_row row rest None e = ap (λ (l : List ℕ). l ++ flat_map f rest) (sym (are.of_none row.0))
  one_row row rest (Some c) e =
      ap (λ (l : List ℕ). l ++ flat_map f rest) (sym (are.of_some c) ∙ ap (λ (k : Key). g k (Some c)) ((proper_linkable row.0 (fields_of row.1) c e).key_is))

  by_rows : (all : List Linkable) (rows : List Row) → Each (IsFoundAt all) rows → flat_map f (filter_map row_linkable rows) ≡ flat_map (λ row. g row.0 (find (has_key row.0) all)) rows
  by_rows all [] found = refl
  by_rows all (row ∷ rows) found =
      one_row row (filter_map row_linkable rows) (row_linkable row) refl
      ∙ ap (λ (o : Option Linkable). g row.0 o ++ flat_map f (filter_map row_linkable rows)) (sym found.0)
      ∙ ap (λ (l : List ℕ). g row.0 (find (has_key row.0) all) ++ l) (by_rows all rows found.1)

-- ---- authorities that share a form

-- the line that stands at a row, of those that share its authority's form
abbrev pub shared_at : List Linkable → Row → List ℕ
shared_at all row = shared_line row.0 (keys_sharing row.0 all)

shared_lines_of : (all : List Linkable) → AreLinesOf (λ c. shared_line c.key (keys_sharing_form_of c all)) (λ key o. shared_line key (option_map_or (λ c. keys_sharing_form_of c all) o []))
shared_lines_of all = record { of_some = λ c. refl; of_none = λ key. refl }

pub shared_by_rows : (s : State) → IsAscending s.authorities → shared_lines (linkable_authorities s) ≡ flat_map (shared_at (linkable_authorities s)) s.authorities
shared_by_rows s ascends =
    let all = linkable_authorities s in
    by_rows (λ c. shared_line c.key (keys_sharing_form_of c all)) (λ key o. shared_line key (option_map_or (λ c. keys_sharing_form_of c all) o [])) (shared_lines_of all) all
    s.authorities (each_found s.authorities ascends)

-- ---- authorities that are found under another

-- the lines that stand at a row, of those under whose form its authority is found
abbrev pub cross_at : List Linkable → Row → List ℕ
cross_at all row = flat_map (cross_text row.0) (keys_crossing row.0 all)

cross_one : (c : Linkable) (others : List Linkable) → flat_map (cross_line c) others ≡ flat_map (cross_text c.key) (keys_of_linkable (filter (is_found_under c) others))
cross_one c [] = refl
cross_one c (other ∷ others) = by (is_found_under c other) (cross_one c others)
  where
    by : (b : Bool) → flat_map (cross_line c) others ≡ flat_map (cross_text c.key) (keys_of_linkable (filter (is_found_under c) others))
        → cond b (cross_text c.key other.key) [] ++ flat_map (cross_line c) others
        ≡ flat_map (cross_text c.key) (keys_of_linkable (cond b (other ∷ filter (is_found_under c) others) (filter (is_found_under c) others)))
    by true rest = ap (λ (l : List ℕ). cross_text c.key other.key ++ l) rest
    by false rest = rest

cross_lines_of : (all : List Linkable) → AreLinesOf (λ c. flat_map (cross_line c) all)
    (λ key o. flat_map (cross_text key) (option_map_or (λ c. keys_of_linkable (filter (is_found_under c) all)) o []))
cross_lines_of all = record { of_some = λ c. sym (cross_one c all); of_none = λ key. refl }

pub cross_by_rows : (s : State) → IsAscending s.authorities → cross_lines (linkable_authorities s) ≡ flat_map (cross_at (linkable_authorities s)) s.authorities
cross_by_rows s ascends =
    let all = linkable_authorities s in
    by_rows (λ c. flat_map (cross_line c) all) (λ key o. flat_map (cross_text key) (option_map_or (λ c. keys_of_linkable (filter (is_found_under c) all)) o [])) (cross_lines_of all) all
    s.authorities (each_found s.authorities ascends)

-- ---- a loop over rows, and one over keys

pub row_next : (f : Row → List ℕ) (rows more : List (Bor Key × Bor StoredRecord)) (key : Bor Key) (kept : Bor StoredRecord) → rows ≡ (key, kept) ∷ more
    → flat_map f (map shown_row rows) ≡ f (key.now, kept_record kept.now) ++ flat_map f (map shown_row more)
row_next f rows more key kept is = ap (λ (l : List (Bor Key × Bor StoredRecord)). flat_map f (map shown_row l)) is

pub key_next : (f : Key → List ℕ) (keys : List (Bor Key)) (i : ℕ) (key : Bor Key) → i < length keys → key ≡ get_or keys i key
    → flat_map f (shown_keys (drop i keys)) ≡ f key.now ++ flat_map f (shown_keys (drop (i + 1) keys))
key_next f keys i key within is = ap (λ (l : List (Bor Key)). flat_map f (shown_keys l)) (drop_next keys i key within is)
