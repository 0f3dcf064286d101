-- The worklist of a state. The list is this project's own.
use Rattle.std.specs.Prelude.{ℕ, Bool, List, ◌∷◌, ◌++◌, map, Option, None, option_and_then, if◌then◌else◌}
use Rattle.std.specs.List.{filter_map}
use Rattle.std.specs.Option.{option_map}
use Rattle.marc_types.specs.declared.key.Key.{Key}
use Rattle.marc_types.specs.declared.key.Place.{Place}
use Rattle.catalogue_rules.specs.State.{State, linkable_authorities}
use Rattle.catalogue_rules.specs.Receipt.{kept_under}
use Rattle.heading_worklist.specs.Csv.{CsvLine, list_bytes}
use Rattle.heading_worklist.specs.Headings.{OpenHeading, compared, open_headings}
use Rattle.heading_worklist.specs.Found.{open_at_field}
use Rattle.heading_worklist.specs.Counts.{Counted, counted_in_order}
use Rattle.heading_worklist.specs.Lines.{Cells, column_names, crossing_lines, heading_cells, line_of_cells, shared_lines}

-- the open heading at a place: of the record under its key, the field of its number
abbrev pub open_at : State → Place → Option OpenHeading
open_at s place =
    option_and_then
    (λ r. open_at_field (linkable_authorities s) place.class (place.key, r) place.field)
    (kept_under place.class place.key s)

-- the cells of the open heading at the place that was counted
abbrev pub counted_cells : State → Counted → Option Cells
counted_cells s c = option_map (λ x. heading_cells s x c.count c.base_count) (open_at s c.heading.place)

-- its line
abbrev pub counted_line : State → Counted → Option CsvLine
counted_line s c = option_map line_of_cells (counted_cells s c)

-- its line, where the key of its record is kept
abbrev pub kept_line : (Key → Bool) → State → Counted → Option CsvLine
kept_line keep s c = if keep c.heading.place.key then counted_line s c else None

-- the lines of those open headings that were counted whose record's key is kept
abbrev pub counted_lines : (Key → Bool) → State → List Counted → List CsvLine
counted_lines keep s found = filter_map (kept_line keep s) found

-- The columns' names; the lines of open headings that were counted; then those of authorities that share their heading with others, and of
-- authorities that are found under the heading of others. Of all these the lines that are kept.
abbrev pub lines_behind : (Key → Bool) → State → List Counted → List CsvLine
lines_behind keep s found = column_names ∷ counted_lines keep s found ++ shared_lines keep s ++ crossing_lines keep s

-- the lines of a worklist: of all open headings, counted and in order, those of the records whose key is kept, and those of authorities
unfoldable pub worklist_lines : (Key → Bool) → State → List CsvLine
worklist_lines keep s = lines_behind keep s (counted_in_order (map compared (open_headings s)))

-- the worklist, as bytes
unfoldable pub worklist_of : (Key → Bool) → State → List ℕ
worklist_of keep s = list_bytes (worklist_lines keep s)
