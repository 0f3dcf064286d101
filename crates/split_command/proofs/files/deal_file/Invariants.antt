use Rattle.std.proofs.Common.{◌≡◌, ◌-◌, ◌+◌, ◌≤◌, ℕ, List, None}
use Rattle.outside.specs.Room.{SameBut}
use Rattle.split_command.specs.Names.{names_from}
use Rattle.split_command.specs.Groups.{IsFileWhole}
use Rattle.split_command.proofs.files.deal_file.Given as goal

abbrev pub invariant-groups : goal.invariant-groups
invariant-groups g l = (l.first ≤ l.fn.plan.parts + 1)
    × SameBut (g.R.Room.seen l.initial.room) (g.R.Room.seen l.room) (names_from l.fn.plan.prefix l.fn.file 0 l.first)
    × ((name : List ℕ) → (g.R.Room.seen l.room).open_as name ≡ None)
    × IsFileWhole (g.R.Room.seen l.initial.room) (g.R.Room.seen l.room) l.fn.plan l.fn.library l.fn.file l.first

abbrev pub decreases-groups : goal.decreases-groups
decreases-groups g l = l.fn.plan.parts + 1 - l.first
