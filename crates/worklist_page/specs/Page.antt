-- What a page shows of a catalogue. The page is this project's own.
use Rattle.std.specs.Prelude.{ℕ, List, [], ◌∷◌, ◌++◌, codes, length}
use Rattle.std.specs.List.{flat_map}
use Rattle.std.specs.Ordering.{nat_cmp}
use Rattle.std.specs.Fmt.{decimal}
use Rattle.marc_types.specs.declared.entry.Entry.{Entry}
use Rattle.marc_types.specs.declared.form.Kind.{Kind}
use Rattle.marc_types.specs.declared.form.Kind.TheVariants.{Personal, Corporate, Meeting, Title, Chronological, Topical, Geographic, Genre}
use Rattle.marc_types.specs.Order.{kind_rank}
use Rattle.catalogue_rules.specs.State.{State}
use Rattle.catalogue_rules.specs.Settle.{state_of}
use Rattle.worklist_page.specs.declared.names.Element.TheVariants as tag
use Rattle.worklist_page.specs.declared.names.Attribute.TheVariants as attribute
use Rattle.worklist_page.specs.Pieces.{Doctype, Piece, Start, element, element_with, page_bytes, words}
use Rattle.worklist_page.specs.declared.shares.Shares.{Shares}
use Rattle.worklist_page.specs.declared.bringer.Bringer.{Bringer}
use Rattle.worklist_page.specs.Brought.{brought_by}
use Rattle.worklist_page.specs.Figures.{Figured, figures_of, shares_at}
use Rattle.worklist_page.specs.Headings.{headings_table}
use Rattle.worklist_page.specs.declared.style.TheConstants.{STYLE}
use Rattle.worklist_page.specs.Ranking.{Ranked, by_size, greatest, others}
use Rattle.worklist_page.specs.Tables.{column, count_row, number, row, row_name, shares_columns, shares_row, table}

-- how the page names a kind
abbrev pub kind_name : Kind → List ℕ
kind_name Personal = codes "Personal names"
kind_name Corporate = codes "Corporate names"
kind_name Meeting = codes "Meetings"
kind_name Title = codes "Titles"
kind_name Chronological = codes "Periods"
kind_name Topical = codes "Topics"
kind_name Geographic = codes "Places"
kind_name Genre = codes "Genres and forms"

-- how many records and headings there are
abbrev pub totals_rows : ℕ → ℕ → Shares → List Piece
totals_rows authorities bibliographic s =
    count_row (codes "Authority records") authorities ++ count_row (codes "Bibliographic records") bibliographic
    ++ count_row (codes "Linked headings") s.linked ++ count_row (codes "Ambiguous headings") s.ambiguous
    ++ count_row (codes "Unlinked headings") s.unlinked

-- their table
abbrev pub totals_table : ℕ → ℕ → Shares → List Piece
totals_table authorities bibliographic s =
    table (codes "Records and headings of the whole catalogue") (column (codes "What") ++ column (codes "Count")) (totals_rows authorities bibliographic s)

-- the row of a library
abbrev pub library_row : Ranked → List Piece
library_row r = shares_row r.code r.shares

-- the 50 libraries with the most headings, and all others together
abbrev pub library_rows : List Ranked → List Piece
library_rows ranks = flat_map library_row (greatest ranks) ++ shares_row (codes "all others") (others ranks)

-- their table
abbrev pub libraries_table : List (List ℕ × Shares) → List Piece
libraries_table rows = table (codes "Headings by library: the 50 with the most, and all others") (shares_columns (codes "Code in keys")) (library_rows (by_size rows))

-- the row of a kind
abbrev pub kind_row : List (ℕ × Shares) → Kind → List Piece
kind_row rows kind = shares_row (kind_name kind) (shares_at nat_cmp rows (kind_rank kind))

-- the rows of the eight kinds
abbrev pub kind_rows : List (ℕ × Shares) → List Piece
kind_rows rows =
    kind_row rows Personal ++ kind_row rows Corporate ++ kind_row rows Meeting ++ kind_row rows Title
    ++ kind_row rows Chronological ++ kind_row rows Topical ++ kind_row rows Geographic ++ kind_row rows Genre

-- their table
abbrev pub kinds_table : List (ℕ × Shares) → List Piece
kinds_table rows = table (codes "Headings by kind") (shares_columns (codes "Kind")) (kind_rows rows)

-- who brought entries, and how many
abbrev pub brought_cells : Bringer × ℕ → List Piece
brought_cells b = row_name (decimal b.0.run) ++ number b.0.loader ++ element tag.Td (words b.0.library) ++ number b.1

-- their row
abbrev pub brought_row : Bringer × ℕ → List Piece
brought_row b = row (brought_cells b)

-- the heads of its columns
abbrev pub brought_columns : List Piece
brought_columns = column (codes "Run") ++ column (codes "Loader") ++ column (codes "Loaded under") ++ column (codes "Entries")

-- how many entries the loaders of each run brought; files' names aren't known
abbrev pub brought_table : List (Bringer × ℕ) → List Piece
brought_table rows = table (codes "Entries of the history, by who brought them") brought_columns (flat_map brought_row rows)

-- the page's name
abbrev pub page_name : List ℕ
page_name = codes "Union catalogue: how its headings are linked"

-- the character set, the name and the style
abbrev pub head_parts : List Piece
head_parts =
    Start tag.Meta ((attribute.Charset, codes "utf-8") ∷ []) ∷ [] ++ element tag.Title (words page_name) ++ element tag.Style (words STYLE.now)

-- the head, which has these
abbrev pub head : List Piece
head = element tag.Head head_parts

-- the totals of a state
abbrev pub state_totals : State → Shares → List Piece
state_totals s totals = totals_table (length s.authorities) (length s.bibliographic) totals

-- under the page's name: the totals, the libraries, the kinds, the headings that stand most often, and the history
abbrev pub content : State → Figured → List (Bringer × ℕ) → List Piece
content s f brought =
    element tag.H1 (words page_name) ++ state_totals s f.totals ++ libraries_table f.libraries
    ++ kinds_table f.kinds ++ headings_table s ++ brought_table brought

-- the head, and the body, which has this
abbrev pub halves : State → Figured → List (Bringer × ℕ) → List Piece
halves s f brought = head ++ element tag.Body (content s f brought)

-- the page without its type
abbrev pub html : State → Figured → List (Bringer × ℕ) → List Piece
html s f brought = element_with tag.Html ((attribute.Lang, codes "en") ∷ []) (halves s f brought)

-- the page
abbrev pub page_pieces : State → Figured → List (Bringer × ℕ) → List Piece
page_pieces s f brought = Doctype ∷ html s f brought

-- the page of a state, and of who brought its history
abbrev pub state_page : State → List (Bringer × ℕ) → List ℕ
state_page s brought = page_bytes (page_pieces s (figures_of s) brought)

-- the page of a history
unfoldable pub page_of : List Entry → List ℕ
page_of history = state_page (state_of history) (brought_by history)
