use Rattle.std.proofs.Common.{◌≡◌, vec_len}
use Rattle.catalogue_lock.specs.Steps.{Gathers}
use Rattle.catalogue_lock.proofs.sharing.gather.Given as goal

-- the seat has all passes but those that are left
abbrev pub invariant-loop-pass : goal.invariant-loop-pass
invariant-loop-pass g l = (l.seat.table_id ≡ l.steps.table_id) × Gathers l.steps.table_id l.fn.passes.items l.left.items l.seat.me

abbrev pub decreases-loop-pass : goal.decreases-loop-pass
decreases-loop-pass g l = vec_len l.left
