-- Counts of the fields that are linked to some keys.
use Rattle.std.proofs.Common.{◌≡◌, ◌∙◌, ℕ, ◌+◌, ◌<◌, Bool, true, false, List, [], ◌∷◌, map, take, length, get_or, Option, Some, None, cond, refl, sym, ap, subst, arith}
use Rattle.std.specs.Prelude.{if◌then◌else◌, IsSome}
use Rattle.std.specs.BTreeMap.{BTreeMap, get, Updates, WritesThrough}
use Rattle.std.specs.List.{count_by, sum_by}
use Rattle.std.specs.Map.{lookup}
use Rattle.std.specs.Option.{option_map}
use Rattle.std.specs.Cmp.{eq_by_cmp_equiv}
use Rattle.std.proofs.lemmas.List.Sums.{sum_by-cons, sum_by_more}
use Rattle.marc_types.specs.Order.{key_cmp, key_cmp_total, same_key}
use Rattle.marc_types.specs.declared.entry.Tie.{Tie}
use Rattle.marc_types.specs.declared.field.Field.{Field}
use Rattle.marc_types.specs.declared.key.Key.{Key}
use Rattle.catalogue_rules.specs.State.{KeptField, Row, new_field}
use Rattle.catalogue_rules.specs.Settle.{is_linked_to}
use Rattle.heading_list.specs.Counting.{CountsRose, count_of, is_tied_to}
use Rattle.heading_list.specs.Lines.{linked_of_row, linked_of_rows}
use Rattle.heading_list.specs.declared.links.Links.{Links}

-- a count that begins, or that stays
begins_by : (b : Bool) (o : Option ℕ) → cond b (Some 0) o ≡ (if b then Some 0 else o)
begins_by true o = refl
begins_by false o = refl

same_turned : (x y : Key) → same_key x y ≡ same_key y x
same_turned x y = (eq_by_cmp_equiv key_cmp_total).symm x y

-- the count of a key in a map
abbrev pub count_in : BTreeMap Key ℕ → Key → Option ℕ
count_in counts key = lookup (same_key key) counts.entries

pub begins : (old new : BTreeMap Key ℕ) (key other : Key) → Updates key_cmp old new key (Some 0)
    → count_in new other ≡ (if same_key other key then Some 0 else count_in old other)
begins old new key other now =
    now.0 other ∙ begins_by (same_key key other) (count_in old other)
    ∙ ap (λ b. if b then Some 0 else count_in old other) (same_turned key other)

-- no count rises by nothing
still : (o : Option ℕ) → o ≡ option_map (λ n. n + 0) o
still None = refl
still (Some n) = ap (λ m. Some m) (omega arith)

none_rises : (o : Option ℕ) (b : Bool) → (b ≡ true → None ≡ o) → o ≡ option_map (λ n. n + (if b then 1 else 0)) o
none_rises o false none = still o
none_rises None true none = refl
none_rises (Some n) true none = let gone : None ≡ Some n = none refl in cc

alike : (counts : BTreeMap Key ℕ) (x y : Key) → same_key x y ≡ true → count_in counts x ≡ count_in counts y
alike counts x y same = λ i. lookup (λ k. (eq_by_cmp_equiv key_cmp_total).congr x y k same i) counts.entries

-- the key isn't counted
pub uncounted : (old new : BTreeMap Key ℕ) (key other : Key) → new ≡ old → None ≡ get key_cmp old key
    → count_in new other ≡ option_map (λ n. n + (if same_key other key then 1 else 0)) (count_in old other)
uncounted old new key other same none =
    ap (λ counts. count_in counts other) same
    ∙ none_rises (count_in old other) (same_key other key) (λ same. none ∙ sym (alike old other key same))

rises_by : (b : Bool) (old new : Option ℕ) (v : ℕ) → new ≡ cond b (Some (v + 1)) old → (b ≡ true → old ≡ Some v)
    → new ≡ option_map (λ n. n + (if b then 1 else 0)) old
rises_by true old new v now was = now ∙ sym (ap (option_map (λ n. n + 1)) (was refl))
rises_by false old new v now was = now ∙ still old

-- the count of the key is one more
pub one_more : (old new : BTreeMap Key ℕ) (key other : Key) (v : ℕ) → Some v ≡ get key_cmp old key → WritesThrough key_cmp (key_cmp key) old (v + 1) new
    → count_in new other ≡ option_map (λ n. n + (if same_key other key then 1 else 0)) (count_in old other)
one_more old new key other v was writes =
    let updates = writes.3 (subst (λ o. IsSome o) was refl) in
    rises_by (same_key other key) (count_in old other) (count_in new other) v
    (updates.0 other ∙ ap (λ b. cond b (Some (v + 1)) (count_in old other)) (same_turned key other))
    (λ same. alike old other key same ∙ sym was)

-- ---- counts that rise again and again

pub rise_none : (links : Links) (more : Key → ℕ) → ((key : Key) → more key ≡ 0) → CountsRose links links more
rise_none links more none key = still (count_of links key) ∙ (λ i. option_map (λ n. n + sym (none key) i) (count_of links key))

joined : (o : Option ℕ) (m k : ℕ) → option_map (λ n. n + k) (option_map (λ n. n + m) o) ≡ option_map (λ n. n + (m + k)) o
joined None m k = refl
joined (Some n) m k = ap (λ x. Some x) (omega arith)

pub rise_then : (a b c : Links) (more most : Key → ℕ) → CountsRose a b more → CountsRose b c most → CountsRose a c (λ key. more key + most key)
rise_then a b c more most one other key = other key ∙ ap (option_map (λ n. n + most key)) (one key) ∙ joined (count_of a key) (more key) (most key)

pub rise_so : (a b : Links) (more most : Key → ℕ) → ((key : Key) → more key ≡ most key) → CountsRose a b more → CountsRose a b most
rise_so a b more most same rose key = rose key ∙ (λ i. option_map (λ n. n + same key i) (count_of a key))

-- ---- the fields of records

sum_of_map : {A B : Type 0} (f : B → ℕ) (g : A → B) (xs : List A) → sum_by f (map g xs) ≡ sum_by (λ x. f (g x)) xs
sum_of_map f g [] = refl
sum_of_map f g (x ∷ xs) =
    sum_by-cons f (g x) (map g xs) ∙ ap (λ n. f (g x) + n) (sum_of_map f g xs) ∙ sym (sum_by-cons (λ x. f (g x)) x xs)

-- the ties of a record's fields tell what they are linked to
pub by_ties : (key : Key) (ties : List Tie) (fields : List KeptField) → ties ≡ map (λ h. h.tie) fields
    → count_by (is_tied_to key) ties ≡ count_by (is_linked_to key) fields
by_ties key ties fields are = ap (count_by (is_tied_to key)) are ∙ sum_of_map (λ tie. cond (is_tied_to key tie) 1 0) (λ (h : KeptField). h.tie) fields

none_linked : (key : Key) (fields : List Field) → count_by (is_linked_to key) (map new_field fields) ≡ 0
none_linked key [] = refl
none_linked key (f ∷ fields) =
    let rest = none_linked key fields in
    sum_by-cons (λ h. cond (is_linked_to key h) 1 0) (new_field f) (map new_field fields) ∙ ap (λ n. 0 + n) rest ∙ refl

-- a record whose fields all are as they came
pub unlinked : (key : Key) (kept : List KeptField) (fields : List Field) → kept ≡ map new_field fields → count_by (is_linked_to key) kept ≡ 0
unlinked key kept fields are = ap (count_by (is_linked_to key)) are ∙ none_linked key fields

pub ties_more : (key : Key) (ties : List Tie) (i : ℕ) (tie : Tie) → i < length ties → tie ≡ get_or ties i tie
    → count_by (is_tied_to key) (take i ties) + (if is_tied_to key tie then 1 else 0) ≡ count_by (is_tied_to key) (take (i + 1) ties)
ties_more key ties i tie h is =
    ap (λ t. count_by (is_tied_to key) (take i ties) + (if is_tied_to key t then 1 else 0)) is
    ∙ sym (sum_by_more (λ t. cond (is_tied_to key t) 1 0) ties i tie h)

-- ---- records one after the other

-- what is counted, with what is to come of these records, is what there will be
pub record IsToRise (whole : Key → Option ℕ) (links : Links) (rows : List Row) : Type 0 where
  pub rise : (key : Key) → option_map (λ n. n + linked_of_rows key rows) (count_of links key) ≡ whole key

pub records_begin : (links : Links) (rows : List Row) → IsToRise (λ key. option_map (λ n. n + linked_of_rows key rows) (count_of links key)) links rows
records_begin links rows = record { rise = λ key. refl }

pub records_more : (whole : Key → Option ℕ) (old new : Links) (rows rest : List Row) (row : Row) → IsToRise whole old rows → rows ≡ row ∷ rest
    → CountsRose old new (λ key. linked_of_row key row) → IsToRise whole new rest
unfolding linked_of_rows
records_more whole old new rows rest row is more rose = record {
  rise = λ key.
      ap (option_map (λ n. n + sum_by (linked_of_row key) rest)) (rose key)
      ∙ (joined (count_of old key) (linked_of_row key row) (sum_by (linked_of_row key) rest)
      ∙ ((λ i. option_map (λ n. n + sym (sum_by-cons (linked_of_row key) row rest) i) (count_of old key))
      ∙ ((λ i. option_map (λ n. n + sum_by (linked_of_row key) (sym more i)) (count_of old key)) ∙ is.rise key)));
}

pub records_end : (whole : Key → Option ℕ) (links : Links) (rows : List Row) → IsToRise whole links rows → rows ≡ [] → (key : Key) → count_of links key ≡ whole key
unfolding linked_of_rows
records_end whole links rows is none key =
    still (count_of links key) ∙ ((λ i. option_map (λ n. n + sum_by (linked_of_row key) (sym none i)) (count_of links key)) ∙ is.rise key)
