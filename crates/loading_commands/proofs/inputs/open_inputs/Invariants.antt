use Rattle.std.proofs.Common.{◌≡◌, All, length, take, vec_capacity, []}
use Rattle.outside.specs.Room.{SameBut}
use Rattle.loading_commands.specs.Inputs.{AreInputs, IsFresh}
use Rattle.loading_commands.proofs.inputs.open_inputs.Given as goal

abbrev pub invariant-loop-index : goal.invariant-loop-index
invariant-loop-index g l = SameBut (g.R.Room.seen l.initial.room) (g.R.Room.seen l.room) [] × (length l.inputs.items ≡ l.index) × (vec_capacity l.inputs ≡ vec_capacity l.initial.inputs)
    × All (IsFresh g.R.In.Source.faults) l.inputs.items
    × AreInputs g.R.In.Source.left (g.R.Room.seen l.initial.room) (take (length l.inputs.items) l.fn.libraries) l.inputs.items
    × ((g.R.Room.seen l.room).lefts ≡ (g.R.Room.seen l.initial.room).lefts)
