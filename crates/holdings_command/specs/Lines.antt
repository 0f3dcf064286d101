-- What the console is told of a file of holdings. The lines are this project's own.
use Rattle.std.specs.Prelude.{ℕ, List, ◌++◌, length, codes}
use Rattle.std.specs.List.{flat_map}
use Rattle.std.specs.Fmt.{decimal}
use Rattle.catalogue_rules.specs.State.{State}
use Rattle.console_lines.specs.Lines.{reason_of, blank, line_end}
use Rattle.holdings.specs.Refusals.{number_of_refusal}
use Rattle.holdings.specs.Shelves.{shelf_of}
use Rattle.holdings.specs.declared.holding.Holding.{Holding}
use Rattle.holdings.specs.declared.refusal.HoldingRefusal.{HoldingRefusal}
use Rattle.holdings.specs.declared.refusal.HoldingRefusal.TheVariants.{OfRecord, NoTarget}
use Rattle.file_holdings.specs.declared.refused.RefusedHolding.{RefusedHolding}
use Rattle.holdings_export.specs.Output.{attached_holdings, waiting_holdings}

-- the words of a holding's refusal
abbrev pub reason_of_holding : HoldingRefusal → List ℕ
reason_of_holding (OfRecord refusal) = reason_of refusal
reason_of_holding NoTarget = codes "no target"

-- the file as the words name it, the piece's number and place, and the refusal's number and reason
unfoldable pub refused_holding_line : List ℕ → RefusedHolding → List ℕ
refused_holding_line file item =
    file ++ blank ++ decimal item.ordinal ++ blank ++ decimal item.offset ++ blank ++ decimal (number_of_refusal item.refusal)
    ++ blank ++ reason_of_holding item.refusal ++ line_end

-- a line for each refused piece
abbrev pub refused_holding_lines : List ℕ → List RefusedHolding → List ℕ
refused_holding_lines file items = flat_map (refused_holding_line file) items

-- what is counted of a file: of its items, and of the holdings on the shelf
unfoldable pub holdings_line : List ℕ → ℕ → ℕ → ℕ → ℕ → List ℕ
holdings_line file accepted refused attached waiting =
    file ++ codes ": accepted " ++ decimal accepted ++ codes ", refused " ++ decimal refused
    ++ codes ", attached " ++ decimal attached ++ codes ", waiting " ++ decimal waiting ++ line_end

-- what the console is told of a file: its refused pieces, and what was counted
abbrev pub counted_results : List ℕ → ℕ → List RefusedHolding → ℕ → ℕ → List ℕ
counted_results file accepted refused attached waiting =
    refused_holding_lines file refused ++ holdings_line file accepted (length refused) attached waiting

-- what the console is told of a file's judgement over a state
abbrev pub holdings_results : List ℕ → State → List Holding → List RefusedHolding → List ℕ
holdings_results file s accepted refused =
    counted_results file (length accepted) refused
    (length (attached_holdings s (shelf_of accepted))) (length (waiting_holdings s (shelf_of accepted)))
