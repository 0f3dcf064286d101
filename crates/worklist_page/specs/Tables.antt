-- Tables of a page. Source: HTML Living Standard (captions, heads and cells of tables).
use Rattle.std.specs.Prelude.{ℕ, List, [], ◌∷◌, ◌++◌, codes}
use Rattle.std.specs.Fmt.{decimal}
use Rattle.worklist_page.specs.declared.names.Element.TheVariants.{Caption, Table, Tbody, Td, Th, Thead, Tr}
use Rattle.worklist_page.specs.declared.names.Attribute.TheVariants.{Class, Scope}
use Rattle.worklist_page.specs.declared.bars.Bar.{Bar}
use Rattle.worklist_page.specs.Bars.{bar}
use Rattle.worklist_page.specs.Pieces.{Piece, Start, element, element_with, words}
use Rattle.worklist_page.specs.declared.shares.Shares.{Shares}

-- a row of a table
abbrev pub row : List Piece → List Piece
row cells = element Tr cells

-- the head of a column
abbrev pub column : List ℕ → List Piece
column name = element_with Th ((Scope, codes "col") ∷ []) (words name)

-- the head of a row
abbrev pub row_name : List ℕ → List Piece
row_name name = element_with Th ((Scope, codes "row") ∷ []) (words name)

-- a cell with a text
abbrev pub cell : List ℕ → List Piece
cell text = element Td (words text)

-- a cell with the text of a number
abbrev pub number_cell : List ℕ → List Piece
number_cell text = element_with Td ((Class, codes "n") ∷ []) (words text)

-- a cell with a number
abbrev pub number : ℕ → List Piece
number n = number_cell (decimal n)

-- the start of a table with that caption, up to the heads of its columns
abbrev pub table_start : List ℕ → List Piece
table_start caption = Start Table [] ∷ element Caption (words caption) ++ Start Thead [] ∷ Start Tr [] ∷ []

-- a table: its caption, and the heads of columns over rows
abbrev pub table : List ℕ → List Piece → List Piece → List Piece
table caption columns rows = element Table (element Caption (words caption) ++ element Thead (row columns) ++ element Tbody rows)

-- the bar of shares
abbrev pub bar_of : Shares → Bar
bar_of s = record { linked = s.linked; ambiguous = s.ambiguous; unlinked = s.unlinked }

-- the heads of columns of shares, behind a first one
abbrev pub shares_columns : List ℕ → List Piece
shares_columns first =
    column first ++ column (codes "Linked") ++ column (codes "Ambiguous") ++ column (codes "Unlinked")
    ++ column (codes "Shares of the row, from the left: linked (dark), ambiguous (brown), unlinked (light)")

-- the three numbers of shares
abbrev pub shares_numbers : Shares → List Piece
shares_numbers s = number s.linked ++ number s.ambiguous ++ number s.unlinked

-- the row of shares under a name
abbrev pub shares_row : List ℕ → Shares → List Piece
shares_row name s = row (row_name name ++ shares_numbers s ++ element Td (bar (bar_of s)))

-- the row of a count under a name
abbrev pub count_row : List ℕ → ℕ → List Piece
count_row name n = row (row_name name ++ number n)
