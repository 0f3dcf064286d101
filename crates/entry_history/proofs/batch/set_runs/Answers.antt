use Rattle.std.proofs.Common.{get_or, ap}
use Rattle.std.proofs.lemmas.List.Edits.{map_over_more}
use Rattle.entry_record.specs.History.{in_run}
use Rattle.entry_history.proofs.batch.set_runs.Goals as goal

pub loop-item-preserved : goal.loop-item-preserved
loop-item-preserved c =
    rw c.set_run.ensures
    (map_over_more (in_run c.args.run) c.args.items.now c.loop-item.items c.loop-item.item-index _ c.loop-item-test.true c.loop-item.invariant
    (ap (get_or c.loop-item.items c.loop-item.item-index) c.item-item.is))
