use Rattle.heading_list.proofs.Listings.{rows_more, rows_end}
use Rattle.heading_list.proofs.listing.counted.Goals as goal

pub loop-row-preserved : goal.loop-row-preserved
loop-row-preserved c = rows_more _ _ _ _ _ _ _ c.loop-row.invariant c.in-Some.ensures.steps c.in_ok-copy.ensures c.in_ok-begin.ensures

pub returns : goal.returns
returns c = rows_end _ _ _ c.loop-row.invariant c.in-None.ensures.steps.0
