use Rattle.std.proofs.Common.{map, ap}
use Rattle.heading_list.proofs.Counts.{records_more, records_end}
use Rattle.heading_list.proofs.links.Links.add_records.Goals as goal
use Rattle.numbered_store.specs.Kept.{shown_row}

pub loop-key-preserved : goal.loop-key-preserved
loop-key-preserved c =
    records_more _ _ _ _ _ _ c.loop-key.invariant (ap (map shown_row) c.in-Some.ensures.steps) c.in_ok-add_record.ensures

pub returns : goal.returns
returns c = records_end _ _ _ c.loop-key.invariant (ap (map shown_row) c.in-None.ensures.steps.0)
