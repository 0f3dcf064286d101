use Rattle.std.proofs.Common.{None}
use Rattle.heading_list.proofs.Listings.{AreToCount, first_count, has_row}
use Rattle.heading_list.proofs.listing.counted.Given as goal

abbrev pub invariant-loop-row : goal.invariant-loop-row
invariant-loop-row l = AreToCount (λ key. first_count (has_row key l.rows.keys) None) l.links l.row-iterator
