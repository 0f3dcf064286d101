-- The pages that a reader of established headings gets while files are loaded, and their lines. The rules are this project's own.
use Rattle.std.specs.Prelude.{◌≡◌, ℕ, ◌+◌, ◌<◌, ◌≤◌, List, [], ◌∷◌, ◌++◌, length, map, take, codes}
use Rattle.std.specs.Fmt.{decimal}
use Rattle.std.specs.List.{flat_map}
use Rattle.marc_types.specs.declared.entry.Entry.{Entry}
use Rattle.marc_types.specs.declared.form.Form.{Form}
use Rattle.marc_types.specs.declared.form.Kind.TheVariants.{Personal}
use Rattle.heading_fields.specs.Numbers.{key_text}
use Rattle.catalogue_rules.specs.Lines.{line, then_words}
use Rattle.catalogue_rules.specs.Settle.{state_of}
use Rattle.heading_rows.specs.Rows.{rows_of_state}
use Rattle.heading_rows.specs.declared.row.BrowseRow.{BrowseRow}
use Rattle.heading_rows.specs.declared.row.BrowsePage.{BrowsePage}

-- so many rows a page has at most
abbrev pub most_rows : ℕ
most_rows = 20

-- so many pages a command has at most
abbrev pub most_pages : ℕ
most_pages = 1000

-- the form that stands before all others: of the first kind, and without items
abbrev pub first_form : Form
first_form = record { kind = Personal; items = [] }

-- the line of a row: its key's text and its form's texts, parted by blanks
abbrev pub row_line : BrowseRow → List ℕ
row_line row = line (key_text row.key ++ then_words (map (λ item. item.text) row.form.items))

-- the lines of a page: the number of entries that its list has, and its rows
abbrev pub page_lines : BrowsePage → List ℕ
page_lines page = line (codes "AT " ++ decimal page.upto) ++ flat_map row_line page.rows

-- the lines of pages, one after the other
abbrev pub pages_text : List BrowsePage → List ℕ
pages_text pages = flat_map page_lines pages

-- the page behind so many entries of a history: the first rows of the state behind these
unfoldable pub page_behind : List Entry → ℕ → BrowsePage
page_behind all count = record { upto = count; rows = take most_rows (rows_of_state (state_of (take count all))) }

-- numbers that rise: the first is no less than the least, and each other is greater than the one before it
abbrev pub RiseFrom : ℕ → List ℕ → Type 0
RiseFrom least [] = Unit {0}
RiseFrom least (n ∷ ns) = (least ≤ n) × RiseFrom (n + 1) ns

-- Pages of a history: for numbers of its entries that rise from the least, each the page behind so many, and the last behind all.
pub record ArePagesOf (least : ℕ) (all : List Entry) (pages : List BrowsePage) : Type 0 where
  pub earlier : List ℕ
  pub rising : RiseFrom least (earlier ++ length all ∷ [])
  pub few : length earlier < most_pages
  pub are : pages ≡ map (page_behind all) (earlier ++ length all ∷ [])
