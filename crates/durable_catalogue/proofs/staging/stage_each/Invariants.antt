use Rattle.durable_catalogue.proofs.Stages.{AreStaged}
use Rattle.durable_catalogue.proofs.staging.stage_each.Given as goal

abbrev pub invariant-loop-item : goal.invariant-loop-item
invariant-loop-item g l =
    (goal.iterator-loop-item g).can_next l.item-iterator ×
    (goal.iterator-loop-item g).is_finite l.item-iterator ×
    AreStaged l.fn.core l.core l.receipts.items l.yielded
