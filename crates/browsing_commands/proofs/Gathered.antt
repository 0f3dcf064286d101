-- The pages of one history, out of those that a reader got.
use Rattle.std.proofs.Common.{◌≡◌, ◌∙◌, ℕ, ◌+◌, ◌<◌, ◌≤◌, false, not, List, [], ◌∷◌, ◌++◌, length, map, filter, take, is_lt, refl, sym, ap, arith, length-append, append-nil}
use Rattle.std.proofs.lemmas.List.{length-map, map-append, take_at}
use Rattle.std.specs.Ordering.{nat_cmp, ordering_then}
use Rattle.std.specs.Cmp.Lexicographic.{slice_cmp}
use mathlib.Core.List.{IsPrefix}
use Rattle.marc_types.specs.Order.{form_cmp, item_cmp, kind_rank}
use Rattle.marc_types.specs.declared.entry.Entry.{Entry}
use Rattle.marc_types.specs.declared.form.Item.{Item}
use Rattle.marc_types.specs.declared.form.Kind.{Kind}
use Rattle.marc_types.specs.declared.form.Kind.TheVariants.{Personal, Corporate, Meeting, Title, Chronological, Topical, Geographic, Genre}
use Rattle.catalogue_rules.specs.Settle.{state_of}
use Rattle.heading_rows.specs.Rows.{is_before, page_of, rows_of_state}
use Rattle.heading_rows.specs.declared.row.BrowseRow.{BrowseRow}
use Rattle.heading_rows.specs.declared.row.BrowsePage.{BrowsePage}
use Rattle.browse_readers.specs.Browsing.{page_after}
use Rattle.browsing_commands.specs.Pages.{most_rows, most_pages, first_form, page_behind, RiseFrom, ArePagesOf}

-- ---- the first form stands before all others

no_items : (items : List Item) → is_lt (slice_cmp item_cmp items []) ≡ false
no_items [] = refl
no_items (item ∷ items) = refl

by_kind : (kind : Kind) (items : List Item) → is_lt (ordering_then (nat_cmp (kind_rank kind) 0) (slice_cmp item_cmp items [])) ≡ false
by_kind Personal items = no_items items
by_kind Corporate items = refl
by_kind Meeting items = refl
by_kind Title items = refl
by_kind Chronological items = refl
by_kind Topical items = refl
by_kind Geographic items = refl
by_kind Genre items = refl

none_before : (row : BrowseRow) → is_before first_form row ≡ false
unfolding form_cmp
none_before row = by_kind row.form.kind row.form.items

all_rows : (rows : List BrowseRow) → filter (λ r. not (is_before first_form r)) rows ≡ rows
all_rows [] = refl
all_rows (row ∷ rows) = rw (none_before row) (ap (λ l. row ∷ l) (all_rows rows))

first_page : (entries : List Entry) → page_after entries first_form most_rows ≡ record { upto = length entries; rows = take most_rows (rows_of_state (state_of entries)) }
unfolding page_after page_of
first_page entries =
    let page : List BrowseRow → BrowsePage = λ rows. record { upto = length entries; rows = take most_rows rows } in
    ap page (all_rows (rows_of_state (state_of entries)))

-- the page of a front of a history is that behind so many of its entries
page_of_front : (of all : List Entry) → IsPrefix of all → page_after of first_form most_rows ≡ page_behind all (length of)
unfolding page_behind
page_of_front of all begins =
    let front : take (length of) all ≡ of = ap (take (length of)) (sym begins.1) ∙ take_at of begins.0 (length of) refl in
    let page : List Entry → BrowsePage = λ es. record { upto = length of; rows = take most_rows (rows_of_state (state_of es)) } in
    first_page of ∙ ap page (sym front)

-- ---- numbers that rise

-- they rise from the least, and the next may be this one
abbrev pub RiseTo : ℕ → List ℕ → ℕ → Type 0
RiseTo least [] next = least ≤ next
RiseTo least (n ∷ ns) next = (least ≤ n) × RiseTo (n + 1) ns next

rise_on : (least : ℕ) (ns : List ℕ) (next n : ℕ) → RiseTo least ns next → next ≤ n → RiseTo least (ns ++ n ∷ []) (n + 1)
rise_on least [] next n is le = (omega (arith, is, le), omega arith)
rise_on least (m ∷ ns) next n is le = (is.0, rise_on (m + 1) ns next n is.1 le)

rise_end : (least : ℕ) (ns : List ℕ) (next n : ℕ) → RiseTo least ns next → next ≤ n → RiseFrom least (ns ++ n ∷ [])
rise_end least [] next n is le = (omega (arith, is, le), tt)
rise_end least (m ∷ ns) next n is le = (is.0, rise_end (m + 1) ns next n is.1 le)

-- pages so far, for numbers that rise from the least; the next may have this one
pub record ArePagesSoFar (least next : ℕ) (all : List Entry) (pages : List BrowsePage) : Type 0 where
  pub numbers : List ℕ
  pub rise : RiseTo least numbers next
  pub are : pages ≡ map (page_behind all) numbers
  pub few : length pages < most_pages
  pub within : next ≤ length all

pub no_page : (least : ℕ) (all : List Entry) (pages : List BrowsePage) → least ≤ length all → pages ≡ [] → ArePagesSoFar least least all pages
no_page least all pages within none = record {
  numbers = [];
  rise = omega arith;
  are = none;
  few = let count = ap length none in omega (arith, count);
  within = within;
}

pub page_more : (least next : ℕ) (all of : List Entry) (pages new : List BrowsePage) (page : BrowsePage) → ArePagesSoFar least next all pages
    → next ≤ page.upto → page.upto < length all → length pages + 1 < 1000 → IsPrefix of all → page ≡ page_after of first_form most_rows
    → new ≡ pages ++ page ∷ [] → ArePagesSoFar least (page.upto + 1) all new
page_more least next all of pages new page so le below few begins is pushed =
    let counted : page.upto ≡ length of = ap (λ (p : BrowsePage). p.upto) (is ∙ first_page of) in
    let same : page ≡ page_behind all page.upto = is ∙ (page_of_front of all begins ∙ ap (page_behind all) (sym counted)) in
    let count = ap length pushed ∙ length-append pages (page ∷ []) in
    record {
      numbers = so.numbers ++ page.upto ∷ [];
      rise = rise_on least so.numbers next page.upto so.rise le;
      are = pushed ∙ (ap (λ l. l ++ page ∷ []) so.are ∙ (ap (λ p. map (page_behind all) so.numbers ++ p ∷ []) same ∙ sym (map-append (page_behind all) so.numbers (page.upto ∷ []))));
      few = omega (arith, count, few);
      within = omega (arith, below);
    }

-- with the page of all they are all
pub page_last : (least next : ℕ) (all : List Entry) (pages new : List BrowsePage) (page : BrowsePage) → ArePagesSoFar least next all pages
    → page ≡ page_after all first_form most_rows → new ≡ pages ++ page ∷ [] → ArePagesOf least all new
page_last least next all pages new page so is pushed =
    let begins : IsPrefix all all = ([], append-nil all) in
    let same : page ≡ page_behind all (length all) = is ∙ page_of_front all all begins in
    let count : length pages ≡ length so.numbers = ap length so.are ∙ length-map so.numbers (page_behind all) in
    let few = so.few in
    record {
      earlier = so.numbers;
      rising = rise_end least so.numbers next (length all) so.rise so.within;
      few = omega (arith, count, few);
      are = pushed ∙ (ap (λ l. l ++ page ∷ []) so.are
          ∙ (ap (λ p. map (page_behind all) so.numbers ++ p ∷ []) same ∙ sym (map-append (page_behind all) so.numbers (length all ∷ []))));
    }
