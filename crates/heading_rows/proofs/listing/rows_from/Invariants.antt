use Rattle.std.proofs.Common.{◌≡◌, ◌++◌, take}
use Rattle.heading_rows.specs.Rows.{page_of}
use Rattle.heading_rows.proofs.listing.rows_from.Given as goal

-- the rows found so far and those still to come are the page
abbrev pub invariant-loop-row : goal.invariant-loop-row
invariant-loop-row l = l.found.items ++ take l.row-iterator.n l.row-iterator.iter ≡ page_of l.fn.rows.keys l.fn.from l.fn.most
