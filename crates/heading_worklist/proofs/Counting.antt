-- Headings and links are counted, and headings put in order.
use Rattle.std.proofs.Common.{◌≡◌, ◌∙◌, ap, refl, ℕ, ◌+◌, arith, Bool, true, false, List, [], ◌∷◌, map, Option, Some, unwrap_or}
use Rattle.std.specs.Prelude.{cond, fold, if◌then◌else◌}
use Rattle.std.specs.BTreeSet.{insert_key}
use Rattle.std.specs.BTreeMap.{BTreeMap, Updates}
use Rattle.std.specs.HashMap.{HashMap}
use Rattle.std.specs.HashMap as hashed
use Rattle.std.specs.Ordering.{eq_by_cmp}
use Rattle.std.specs.Cmp.{eq_by_cmp_equiv}
use Rattle.std.specs.Map.{lookup}
use Rattle.std.specs.Borrow.{Bor}
use Rattle.std.specs.List.{count_by}
use Rattle.std.specs.declared.cmp.Ordering.{Ordering}
use Rattle.std.specs.Cmp.{IsTotalOrder}
use Rattle.std.proofs.lemmas.List.Sums.{sum_by-cons}
use Rattle.marc_types.specs.declared.field.Field.{Field}
use Rattle.marc_types.specs.declared.key.Key.{Key}
use Rattle.marc_types.specs.Order.{key_cmp, key_cmp_total, same_key}
use Rattle.catalogue_rules.specs.Settle.{is_linked_to}
use Rattle.catalogue_rules.specs.State.{KeptField, Row, new_field}
use Rattle.numbered_store.specs.Kept.{kept_record, shown_row}
use Rattle.numbered_store.specs.declared.kept.StoredRecord.{StoredRecord}
use Rattle.heading_worklist.specs.Counts.{StatedForm, Compared, Counted, stated, stated_cmp_total, counted_among, counted_cmp, in_order, same_stated}
use Rattle.heading_worklist.specs.Counting.{AreTimes, counted_by, linked_times, stated_times}
use Rattle.heading_worklist.specs.Lines.{links_in}

more_by : (b : Bool) (n new : ℕ) (here old : Option ℕ) → new ≡ unwrap_or (cond b (Some (n + 1)) old) 0 → (b ≡ true → n ≡ unwrap_or old 0)
    → new ≡ unwrap_or old 0 + (if b then 1 else 0)
more_by true n new here old e same = let s = same refl in omega arith
more_by false n new here old e same = omega arith

module _ {K : Type 0} {cmp : K → K → Ordering} (total : IsTotalOrder cmp) where
  -- what is the same is counted alike
  alike : (entries : List (K × ℕ)) (x y : K) → eq_by_cmp cmp x y ≡ true
      → unwrap_or (lookup (eq_by_cmp cmp x) entries) 0 ≡ unwrap_or (lookup (eq_by_cmp cmp y) entries) 0
  alike entries x y e = λ i. unwrap_or (lookup (λ k. (eq_by_cmp_equiv total).congr x y k e i) entries) 0

  more_of : (old new : List (K × ℕ)) (thing : K) (n : ℕ) → n ≡ unwrap_or (lookup (eq_by_cmp cmp thing) old) 0
      → (a : K) → lookup (eq_by_cmp cmp a) new ≡ cond (eq_by_cmp cmp thing a) (Some (n + 1)) (lookup (eq_by_cmp cmp a) old)
      → unwrap_or (lookup (eq_by_cmp cmp a) new) 0 ≡ unwrap_or (lookup (eq_by_cmp cmp a) old) 0 + (if eq_by_cmp cmp thing a then 1 else 0)
  more_of old new thing n was a now =
      more_by (eq_by_cmp cmp thing a) n (unwrap_or (lookup (eq_by_cmp cmp a) new) 0) (lookup (eq_by_cmp cmp thing) old) (lookup (eq_by_cmp cmp a) old)
      (ap (λ o. unwrap_or o 0) now) (λ same. was ∙ alike old thing a same)

pub one_more : {S : Type 0} (old new : HashMap StatedForm ℕ S) (thing : StatedForm) (n : ℕ) → n ≡ stated_times old thing
    → hashed.Updates same_stated old new thing (Some (n + 1)) → (a : StatedForm) → stated_times new a ≡ stated_times old a + (if same_stated thing a then 1 else 0)
one_more old new thing n was now a = more_of stated_cmp_total old.entries new.entries thing n was a (now.0 a)

-- ---- links

pub one_link : (old new : BTreeMap Key ℕ) (thing : Key) (n : ℕ) → n ≡ linked_times old thing → Updates key_cmp old new thing (Some (n + 1))
    → (k : Key) → linked_times new k ≡ linked_times old k + (if same_key k thing then 1 else 0)
one_link old new thing n was now k =
    more_of key_cmp_total old.entries new.entries thing n was k (now.0 k)
    ∙ ap (λ b. linked_times old k + (if b then 1 else 0)) ((eq_by_cmp_equiv key_cmp_total).symm thing k)

-- new fields aren't linked
pub none_linked : (k : Key) (fs : List Field) → count_by (is_linked_to k) (map new_field fs) ≡ 0
none_linked k [] = refl
none_linked k (f ∷ fs) =
    let first = sum_by-cons (λ (h : KeptField). cond (is_linked_to k h) 1 0) (new_field f) (map new_field fs) in
    omega (arith, first, none_linked k fs)

-- one row more
pub next_links : (k : Key) (rows more : List (Bor Key × Bor StoredRecord)) (key : Bor Key) (kept : Bor StoredRecord) → rows ≡ (key, kept) ∷ more
    → links_in k (map shown_row rows) ≡ count_by (is_linked_to k) (kept_record kept.now).fields + links_in k (map shown_row more)
next_links k rows more key kept is =
    ap (λ (l : List (Bor Key × Bor StoredRecord)). links_in k (map shown_row l)) is
    ∙ sum_by-cons (λ (row : Row). count_by (is_linked_to k) row.1.fields) (key.now, kept_record kept.now) (map shown_row more)

-- ---- maps that count all headings

counted_so : {S : Type 0} (all : List Compared) (full base : HashMap StatedForm ℕ S) → AreTimes true all full → AreTimes false all base
    → (x : Compared) → counted_by full base x ≡ counted_among all x
counted_so all full base f b x = λ i. record { heading = x; count = f (stated true x) i; base_count = b (stated false x) i }

map_so : {S : Type 0} (all xs : List Compared) (full base : HashMap StatedForm ℕ S) → AreTimes true all full → AreTimes false all base
    → map (counted_by full base) xs ≡ map (counted_among all) xs
map_so all [] full base f b = refl
map_so all (x ∷ xs) full base f b = λ i. counted_so all full base f b x i ∷ map_so all xs full base f b i

-- headings in the order in which maps count them are in their order
pub counted_alike : {S : Type 0} (all xs : List Compared) (full base : HashMap StatedForm ℕ S) (lines : List Counted) → AreTimes true all full → AreTimes false all base
    → lines ≡ fold (insert_key counted_cmp) [] (map (counted_by full base) xs) → lines ≡ in_order (map (counted_among all) xs)
unfolding in_order
counted_alike all xs full base lines f b is = is ∙ ap (λ ys. fold (insert_key counted_cmp) [] ys) (map_so all xs full base f b)
