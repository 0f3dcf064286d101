-- What is written of a catalogue's records and a shelf of holdings. Source of the written form: ISO 2709, as the MARC 21
-- Specifications for Record Structure use it. Which records are written, and in which order, is this project's own rule.
use Rattle.std.specs.Prelude.{ℕ, Bool, not, List, [], ◌++◌, filter, Option, is_some, unwrap_or}
use Rattle.std.specs.Borrow.{Bor}
use Rattle.std.specs.List.{flat_map}
use Rattle.std.specs.Option.{option_copied}
use Rattle.marc_types.specs.declared.key.Class.TheVariants.{Bibliographic}
use Rattle.marc_types.specs.declared.key.Key.{Key}
use Rattle.catalogue_rules.specs.State.{Row, State}
use Rattle.catalogue_rules.specs.Receipt.{kept_under}
use Rattle.catalogue_rules.specs.Output.{written_row, export_of_rows}
use Rattle.holdings.specs.Shelves.{ShelfRow, written_holding, target_of_row, holdings_of}

-- the rows of both classes as a state
abbrev pub state_of_rows : List Row → List Row → State
state_of_rows authorities bibliographic = record { authorities = authorities; bibliographic = bibliographic }

-- the holdings of the record under a key
abbrev pub written_holdings : Key → List ShelfRow → List ℕ
written_holdings key shelf = flat_map written_holding (holdings_of key shelf)

-- a record, and its holdings on the shelf behind it
abbrev pub with_holdings : List ShelfRow → Row → List ℕ
with_holdings shelf row = written_row row ++ written_holdings row.0 shelf

-- the selected records, each with its holdings behind it
abbrev pub rows_with_holdings : (Key → Bool) → List ShelfRow → List Row → List ℕ
rows_with_holdings keep shelf rows = flat_map (with_holdings shelf) (filter (λ row. keep row.0) rows)

-- the selected authorities, and then each selected bibliographic record with its holdings, each class in key order
unfoldable pub holdings_export : (Key → Bool) → State → List ShelfRow → List ℕ
holdings_export keep s shelf = export_of_rows keep s.authorities ++ rows_with_holdings keep shelf s.bibliographic

-- the record that a holding belongs to is kept
abbrev pub is_attached : State → ShelfRow → Bool
is_attached s row = is_some (kept_under Bibliographic (target_of_row row) s)

-- the target of the holding is no kept bibliographic record
abbrev pub is_waiting : State → ShelfRow → Bool
is_waiting s row = not (is_attached s row)

-- the holdings whose target is kept
abbrev pub attached_holdings : State → List ShelfRow → List ShelfRow
attached_holdings s shelf = filter (is_attached s) shelf

-- the holdings that wait for theirs
abbrev pub waiting_holdings : State → List ShelfRow → List ShelfRow
waiting_holdings s shelf = filter (is_waiting s) shelf

-- the holdings whose record isn't kept, in key order, whatever is selected
unfoldable pub holdings_rest : State → List ShelfRow → List ℕ
holdings_rest s shelf = flat_map written_holding (waiting_holdings s shelf)

-- the holdings on a shelf that may be there
abbrev pub shelf_or_none : Option (List ShelfRow) → List ShelfRow
shelf_or_none shelf = unwrap_or shelf []

-- the same of one that is lent
abbrev pub lent_shelf : Option (Bor (List ShelfRow)) → List ShelfRow
lent_shelf shelf = shelf_or_none (option_copied shelf)
