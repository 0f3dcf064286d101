use Rattle.std.proofs.Common.{◌≡◌, take, fold}
use Rattle.heading_rows.specs.Listing.{empty_table, take_entry}
use Rattle.browse_readers.proofs.still.table_of.Given as goal

-- the table of the entries so far
abbrev pub invariant-loop-entry : goal.invariant-loop-entry
invariant-loop-entry l = l.table ≡ fold take_entry empty_table (take l.entry-index l.entry-items)
