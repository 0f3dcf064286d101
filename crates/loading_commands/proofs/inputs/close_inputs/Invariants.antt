use Rattle.std.proofs.Common.{◌≡◌, ℕ, ◌<◌, ◌≤◌, length, drop, slice_get, vec_len, [], ◌++◌}
use Rattle.outside.specs.Room.{SameBut}
use Rattle.loading_commands.specs.Inputs.{RisesFrom, lefts_of_inputs}
use Rattle.loading_commands.proofs.inputs.close_inputs.Given as goal

abbrev pub invariant-loop-input : goal.invariant-loop-input
invariant-loop-input g l = SameBut (g.R.Room.seen l.initial.room) (g.R.Room.seen l.room) [] × (length l.inputs.items ≤ length l.initial.inputs.items)
    × ((index : ℕ) → index < length l.inputs.items → slice_get l.inputs.items index ≡ slice_get l.initial.inputs.items index)
    × RisesFrom g.R.In.Source.faults (length l.inputs.items) l.fn.libraries l.initial.inputs.items (g.R.Room.seen l.initial.room) (g.R.Room.seen l.room)
    × ((g.R.Room.seen l.room).lefts ≡ lefts_of_inputs g.R.In.Source.left (drop (length l.inputs.items) l.initial.inputs.items) ++ (g.R.Room.seen l.initial.room).lefts)

abbrev pub decreases-loop-input : goal.decreases-loop-input
decreases-loop-input g l = vec_len l.inputs
