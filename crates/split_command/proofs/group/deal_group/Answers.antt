use Rattle.std.proofs.Common.{◌≡◌, ◌∙◌, [], ap, sym, subst}
use Rattle.outside.proofs.Rooms.{same_but_itself}
use Rattle.split_command.specs.Names.{names_from}
use Rattle.split_command.specs.Outputs.{AreFree}
use Rattle.split_command.specs.Groups.{names_in}
use Rattle.split_command.proofs.SideBySide.{free_same}
use Rattle.split_command.proofs.Grouped.{opened_left, same_left}
use Rattle.split_command.proofs.group.deal_group.Goals as goal

pub returns-in-Err-clause-left : goal.returns-in-Err-clause-left
returns-in-Err-clause-left g c =
    let old = g.R.Room.seen c.args.room.now in
    same_left old old old c.args.plan.now c.args.library.now c.args.group (same_but_itself old [])

pub deal_under-requires-clause-free : goal.deal_under-requires-clause-free
deal_under-requires-clause-free g c κs within =
    let named : c.as_slice.result.now ≡ names_in c.args.plan.now c.args.group =
    c.as_slice.ensures.value ∙ c.in-Ok.ensures ∙ ap (λ p. names_from p c.args.group.file c.args.group.first c.args.group.many) c.as_str.ensures in
    subst (AreFree (g.R.Room.seen c.open_in.new.self)) (sym named)
    (free_same (g.R.Room.seen c.args.room.now) (g.R.Room.seen c.open_in.new.self) (names_in c.args.plan.now c.args.group) c.open_in.ensures.stays c.requires.free)

pub returns-in-Ok-open_in-clause-left : goal.returns-in-Ok-open_in-clause-left
returns-in-Ok-open_in-clause-left g c =
    opened_left (g.R.Room.seen c.args.room.now) (g.R.Room.seen c.open_in.new.self) (g.R.Room.seen c.deal_under.new.room) c.args.plan.now c.args.library.now c.args.group
    c.open_in.ensures.stays c.deal_under.ensures.left

pub returns-clause-closed : goal.returns-clause-closed
returns-clause-closed g c =
    free_same (g.R.Room.seen c.args.room.now) (g.R.Room.seen c.open_in.new.self) (names_in c.args.plan.now c.args.group) c.open_in.ensures.stays c.requires.free

pub returns-clause-left : goal.returns-clause-left
returns-clause-left g c =
    let new = g.R.Room.seen c.open_in.new.self in
    same_left (g.R.Room.seen c.args.room.now) new new c.args.plan.now c.args.library.now c.args.group c.open_in.ensures.stays
