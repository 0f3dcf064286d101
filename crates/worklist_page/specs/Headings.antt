-- The headings that aren't linked and stand most often. The table is this project's own.
use Rattle.std.specs.Prelude.{Bool, true, false, List, [], ◌∷◌, ◌++◌, codes, map, take, Option, Some, None}
use Rattle.std.specs.List.{dedup, flat_map}
use Rattle.std.specs.Option.{option_map_or}
use Rattle.catalogue_rules.specs.State.{State}
use Rattle.heading_worklist.specs.Counts.{Counted, stated, counted_in_order, same_stated}
use Rattle.heading_worklist.specs.Headings.{compared, open_headings}
use Rattle.heading_worklist.specs.Lines.{Cells}
use Rattle.heading_worklist.specs.Worklist.{counted_cells}
use Rattle.worklist_page.specs.Pieces.{Piece}
use Rattle.worklist_page.specs.Tables.{cell, column, number_cell, row, row_name, table}

-- the same state and the same full form
abbrev pub same_heading : Counted → Counted → Bool
same_heading x y = same_stated (stated true x.heading) (stated true y.heading)

-- the last of a list
unfoldable pub last_of : {X : Type 0} → List X → Option X
last_of [] = None
last_of (k ∷ []) = Some k
last_of (k ∷ l ∷ more) = last_of (l ∷ more)

-- the last of those that were found is the same as this one
abbrev pub stands_again : {X : Type 0} → (X → X → Bool) → List X → X → Bool
stands_again same found x = option_map_or (same x) (last_of found) false

-- the open headings of a state, counted and in the order of the list, in which the same stand together
abbrev pub all_open_headings : State → List Counted
all_open_headings s = counted_in_order (map compared (open_headings s))

-- the first of each, a hundred at most
abbrev pub top_of : List Counted → List Counted
top_of all = take 100 (dedup same_heading all)

-- the cells of a heading that a page shows
abbrev pub shown_cells : Cells → List Piece
shown_cells c = row_name c.heading ++ cell c.state ++ cell c.kind ++ number_cell c.count ++ cell c.candidates ++ cell c.candidate_headings

-- their row
abbrev pub cells_row : Cells → List Piece
cells_row c = row (shown_cells c)

-- the row of a heading that was counted, with what the list has of it at its place
abbrev pub heading_row : State → Counted → List Piece
heading_row s c = option_map_or cells_row (counted_cells s c) []

-- the heads of their columns
abbrev pub heading_columns : List Piece
heading_columns =
    column (codes "Heading") ++ column (codes "State") ++ column (codes "Kind") ++ column (codes "Count") ++ column (codes "Candidates")
    ++ column (codes "Their names")

-- their table
abbrev pub headings_table : State → List Piece
headings_table s =
    table (codes "Headings that are not linked: the 100 that stand most often, with the candidates of the first place")
    heading_columns
    (flat_map (heading_row s) (top_of (all_open_headings s)))
