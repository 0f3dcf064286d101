use Rattle.std.proofs.Common.{◌≡◌, ℕ, List, None}
use Rattle.outside.specs.Room.{SameBut}
use Rattle.split_command.specs.Names.{names_of_files}
use Rattle.split_command.proofs.Filed.{AreWholeTo}
use Rattle.split_command.proofs.files.deal_files.Given as goal

abbrev pub invariant-loop-index : goal.invariant-loop-index
invariant-loop-index g l = SameBut (g.R.Room.seen l.initial.room) (g.R.Room.seen l.room) (names_of_files l.fn.plan.prefix l.fn.plan.parts 0 l.index)
    × ((name : List ℕ) → (g.R.Room.seen l.room).open_as name ≡ None)
    × AreWholeTo (g.R.Room.seen l.initial.room) (g.R.Room.seen l.room) l.fn.plan l.fn.libraries l.index
