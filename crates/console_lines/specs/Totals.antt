-- What the totals line tells of a file.
use Rattle.std.specs.Prelude.{List, length}
use Rattle.marc_types.specs.declared.entry.Entry.{Entry}
use Rattle.marc_types.specs.declared.entry.Receipt.{Receipt}
use Rattle.marc_types.specs.Sums.{sums_of}
use Rattle.file_entries.specs.declared.refused.RefusedItem.{RefusedItem}
use Rattle.console_lines.specs.declared.totals.Totals.{Totals}

-- what is counted of a file: its accepted entries, its refused items, and the sums over its entries' receipts
abbrev pub totals_of : List Entry → List RefusedItem → List Receipt → Totals
totals_of accepted refused receipts = record { accepted = length accepted; refused = length refused; sums = sums_of receipts }
