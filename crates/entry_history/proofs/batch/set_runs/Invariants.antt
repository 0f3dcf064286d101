use Rattle.std.proofs.Common.{◌≡◌, ◌++◌, take, drop}
use Rattle.entry_record.specs.History.{with_run}
use Rattle.entry_history.proofs.batch.set_runs.Given as goal

abbrev pub invariant-loop-item : goal.invariant-loop-item
invariant-loop-item l = l.items ≡ with_run l.run (take l.item-index l.initial.items) ++ drop l.item-index l.initial.items
