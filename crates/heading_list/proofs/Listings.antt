-- The lines of rows, of which each key is counted.
use Rattle.std.proofs.Common.{◌≡◌, ◌∙◌, ℕ, ◌+◌, Bool, true, false, ◌||◌, List, [], ◌∷◌, ◌++◌, Option, Some, None, refl, sym, ap, append_assoc, arith}
use Rattle.std.specs.Prelude.{if◌then◌else◌, unwrap_or}
use Rattle.std.specs.List.{flat_map, list_any}
use Rattle.std.specs.Option.{option_map}
use Rattle.std.specs.Cmp.{eq_by_cmp_equiv}
use Rattle.marc_types.specs.Order.{key_cmp_total, same_key}
use Rattle.marc_types.specs.declared.key.Key.{Key}
use Rattle.marc_types.specs.declared.form.Form.{Form}
use Rattle.command_words.specs.Look.{HeadingRange}
use Rattle.catalogue_rules.specs.State.{Row, State}
use Rattle.heading_list.specs.Collecting.{HasFirst}
use Rattle.heading_list.specs.Counting.{CountsRose, count_of}
use Rattle.heading_list.specs.Lines.{linked_of_rows, linked_to, row_line}
use Rattle.heading_list.specs.Rows.{first_of, rows_of_authority}
use Rattle.heading_list.specs.Telling.{headings_of}
use Rattle.heading_list.specs.Typed.{typed_form}
use Rattle.heading_list.specs.declared.first_rows.FirstRows.{FirstRows}
use Rattle.heading_list.specs.declared.links.Links.{Links}
use Rattle.heading_list.specs.declared.row.ListRow.{ListRow}

-- a row of the key is there
abbrev pub has_row : Key → List ListRow → Bool
has_row key rows = list_any (λ r. same_key key r.key) rows

-- the count with which a key begins
abbrev pub first_count : Bool → Option ℕ → Option ℕ
first_count there other = if there then Some 0 else other

counts_by : (own rest : Bool) (o : Option ℕ) → first_count rest (first_count own o) ≡ first_count (own || rest) o
counts_by true true o = refl
counts_by true false o = refl
counts_by false rest o = refl

-- what is counted, with the rows that are to come
pub record AreToCount (whole : Key → Option ℕ) (links : Links) (rows : List ListRow) : Type 0 where
  pub counted : (key : Key) → first_count (has_row key rows) (count_of links key) ≡ whole key

pub rows_begin : (links : Links) (rows : List ListRow) → ((key : Key) → count_of links key ≡ None)
    → AreToCount (λ key. first_count (has_row key rows) None) links rows
rows_begin links rows none = record { counted = λ key. ap (first_count (has_row key rows)) (none key) }

pub rows_more : (whole : Key → Option ℕ) (old new : Links) (rows rest : List ListRow) (row : ListRow) (key : Key) → AreToCount whole old rows → rows ≡ row ∷ rest
    → key ≡ row.key → ((other : Key) → count_of new other ≡ first_count (same_key other key) (count_of old other)) → AreToCount whole new rest
rows_more whole old new rows rest row key are more own now = record {
  counted = λ other.
      ap (first_count (has_row other rest)) (now other ∙ ap (λ k. first_count (same_key other k) (count_of old other)) own)
      ∙ (counts_by (same_key other row.key) (has_row other rest) (count_of old other)
      ∙ (ap (λ rows. first_count (has_row other rows) (count_of old other)) (sym more) ∙ are.counted other));
}

pub rows_end : (whole : Key → Option ℕ) (links : Links) (rows : List ListRow) → AreToCount whole links rows → rows ≡ [] → (key : Key) → count_of links key ≡ whole key
rows_end whole links rows are none key = ap (λ rows. first_count (has_row key rows) (count_of links key)) (sym none) ∙ are.counted key

-- a row is among those that it stands in
among : (key : Key) (before rest : List ListRow) (row : ListRow) → same_key key row.key ≡ true → has_row key (before ++ row ∷ rest) ≡ true
among key [] rest row same = ap (λ b. b || has_row key rest) same
among key (r ∷ before) rest row same = ap (λ b. same_key key r.key || b) (among key before rest row same) ∙ either (same_key key r.key) where
  either : (b : Bool) → (b || true) ≡ true
  either true = refl
  either false = refl

from_none : (m n : ℕ) → 0 + m + n ≡ m + n
from_none m n = omega arith

-- so each line has the count of its key
lines_from : (s : State) (links : Links) (all before rows : List ListRow)
    → ((key : Key) → count_of links key ≡ option_map (λ n. n + linked_of_rows key s.bibliographic) (option_map (λ n. n + linked_of_rows key s.authorities) (first_count (has_row key all) None)))
    → before ++ rows ≡ all
    → flat_map (λ r. row_line (unwrap_or (count_of links r.key) 0) r) rows ≡ flat_map (λ r. row_line (linked_to r.key s) r) rows
lines_from s links all before [] counted are = refl
lines_from s links all before (row ∷ rows) counted are =
    let there : has_row row.key all ≡ true =
    ap (has_row row.key) (sym are) ∙ among row.key before rows row ((eq_by_cmp_equiv key_cmp_total).refl row.key) in
    let count : unwrap_or (count_of links row.key) 0 ≡ linked_to row.key s =
    ap (λ o. unwrap_or o 0) (counted row.key
    ∙ ap (λ b. option_map (λ n. n + linked_of_rows row.key s.bibliographic) (option_map (λ n. n + linked_of_rows row.key s.authorities) (first_count b None))) there)
    ∙ from_none (linked_of_rows row.key s.authorities) (linked_of_rows row.key s.bibliographic) in
    (λ i. row_line (count i) row ++ lines_from s links all (before ++ row ∷ []) rows counted (append_assoc before (row ∷ []) rows ∙ are) i)

pub all_lines : (s : State) (links : Links) (rows : List ListRow)
    → ((key : Key) → count_of links key ≡ option_map (λ n. n + linked_of_rows key s.bibliographic) (option_map (λ n. n + linked_of_rows key s.authorities) (first_count (has_row key rows) None)))
    → flat_map (λ r. row_line (unwrap_or (count_of links r.key) 0) r) rows ≡ flat_map (λ r. row_line (linked_to r.key s) r) rows
all_lines s links rows counted = lines_from s links rows [] rows counted refl

-- the lines of the first rows are the list
pub list_made : (s : State) (range : HeadingRange) (from : Form) (first : FirstRows) (begun between links : Links) (authorities bibliographic : List Row)
    → authorities ≡ s.authorities → bibliographic ≡ s.bibliographic → from ≡ typed_form range.kind range.from
    → HasFirst from range.most (flat_map rows_of_authority authorities) first
    → ((key : Key) → count_of begun key ≡ first_count (has_row key first.rows.keys) None)
    → CountsRose begun between (λ key. linked_of_rows key authorities) → CountsRose between links (λ key. linked_of_rows key bibliographic)
    → flat_map (λ r. row_line (unwrap_or (count_of links r.key) 0) r) first.rows.keys ≡ headings_of range s
unfolding headings_of
list_made s range from first begun between links authorities bibliographic heads books typed has none rose rose_more =
    all_lines s links first.rows.keys
    (λ key. rose_more key
    ∙ (λ i. option_map (λ n. n + linked_of_rows key (books i)) (rose key i))
    ∙ (λ i. option_map (λ n. n + linked_of_rows key s.bibliographic) (option_map (λ n. n + linked_of_rows key (heads i)) (none key i))))
    ∙ ap (flat_map (λ r. row_line (linked_to r.key s) r)) (has.rows_are ∙ (λ i. first_of (typed i) range.most (flat_map rows_of_authority (heads i))))
