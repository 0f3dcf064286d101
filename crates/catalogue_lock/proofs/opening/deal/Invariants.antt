use Rattle.std.proofs.Common.{◌≡◌, ◌-◌, vec_len, vec_capacity}
use Rattle.catalogue_lock.specs.Steps.{Deals}
use Rattle.catalogue_lock.proofs.opening.deal.Given as goal

-- the passes so far have their numbers, and the seat has the others
abbrev pub invariant-loop-seat : goal.invariant-loop-seat
invariant-loop-seat g l =
    (l.seat.table_id ≡ l.fn.seat.table_id) × (vec_capacity l.passes ≡ l.steps.key.callers)
    × Deals l.fn.seat.table_id l.steps.key.object l.fn.seat.me.0.seen l.steps.key.callers l.passes.items l.seat.me

abbrev pub decreases-loop-seat : goal.decreases-loop-seat
decreases-loop-seat g l = l.steps.key.callers - vec_len l.passes
