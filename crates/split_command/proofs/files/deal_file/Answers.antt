use Rattle.std.proofs.Common.{◌+◌, arith}
use Rattle.std.proofs.lemmas.Result.{err_from_is_err_and}
use Rattle.split_command.specs.Names.{names_from}
use Rattle.split_command.proofs.Naming.{names_apart}
use Rattle.split_command.proofs.SideBySide.{free_of_closed, all_closed}
use Rattle.split_command.proofs.Filed.{shares_apart, whole_more, left_here, file_within, file_cause}
use Rattle.split_command.proofs.files.deal_file.Goals as goal

pub deal_group-requires-clause-apart : goal.deal_group-requires-clause-apart
deal_group-requires-clause-apart g c κs within =
    names_apart c.args.plan.now.prefix c.args.file c.groups.first c.min-many.result (omega arith) (omega arith)

pub deal_group-requires-clause-free : goal.deal_group-requires-clause-free
deal_group-requires-clause-free g c κs within = free_of_closed (g.R.Room.seen c.groups.room) _ c.groups.invariant.2

pub returns-in_err-deal_group-clause-closed : goal.returns-in_err-deal_group-clause-closed
returns-in_err-deal_group-clause-closed g c =
    all_closed (g.R.Room.seen c.groups.room) (g.R.Room.seen c.deal_group.new.room) _ c.deal_group.ensures.apart c.deal_group.ensures.closed c.groups.invariant.2

pub returns-in_err-deal_group-clause-apart : goal.returns-in_err-deal_group-clause-apart
returns-in_err-deal_group-clause-apart g c =
    file_within (g.R.Room.seen c.args.room.now) (g.R.Room.seen c.deal_group.new.room) c.args.plan.now.prefix c.args.file (c.groups.first + c.min-many.result) (c.args.plan.now.parts + 1)
    (omega arith)
    (shares_apart (g.R.Room.seen c.args.room.now) (g.R.Room.seen c.groups.room) (g.R.Room.seen c.deal_group.new.room) c.args.plan.now c.args.library.now c.args.file
    c.groups.first c.min-many.result (omega arith) (omega arith) c.requires.few
    c.groups.invariant.1 c.deal_group.ensures.apart)

pub returns-in_err-deal_group-clause-left : goal.returns-in_err-deal_group-clause-left
returns-in_err-deal_group-clause-left g c =
    left_here (g.R.Room.seen c.args.room.now) (g.R.Room.seen c.groups.room) (g.R.Room.seen c.deal_group.new.room) c.args.plan.now c.args.library.now c.args.file
    c.groups.first c.min-many.result (omega arith) (omega arith) c.requires.few
    c.groups.invariant.1 c.deal_group.ensures.apart (omega arith) c.groups.invariant.3 c.deal_group.ensures.left

pub returns-in_err-deal_group-clause-cause : goal.returns-in_err-deal_group-clause-cause
returns-in_err-deal_group-clause-cause g c =
    let exit = err_from_is_err_and c.from_residual.result c.from_residual.ensures.1 in
    rw (exit.1, exit.2)
    (file_cause (g.R.Room.seen c.args.room.now) (g.R.Room.seen c.groups.room) (g.R.Room.seen c.deal_group.new.room) c.args.library.now.file c.args.plan.now.prefix c.args.file
    c.groups.first c.min-many.result (c.args.plan.now.parts + 1) (names_from c.args.plan.now.prefix c.args.file 0 c.groups.first) c.in_err-deal_group.field-0.0
    c.groups.invariant.1 (omega arith) c.in_err-deal_group.ensures.cause)

pub groups-preserved : goal.groups-preserved
groups-preserved g c = (
  omega arith,
  shares_apart (g.R.Room.seen c.args.room.now) (g.R.Room.seen c.groups.room) (g.R.Room.seen c.deal_group.new.room) c.args.plan.now c.args.library.now c.args.file
      c.groups.first c.min-many.result (omega arith) (omega arith) c.requires.few
      c.groups.invariant.1 c.deal_group.ensures.apart,
  all_closed (g.R.Room.seen c.groups.room) (g.R.Room.seen c.deal_group.new.room) _ c.deal_group.ensures.apart c.deal_group.ensures.closed c.groups.invariant.2,
  whole_more (g.R.Room.seen c.args.room.now) (g.R.Room.seen c.groups.room) (g.R.Room.seen c.deal_group.new.room) c.args.plan.now c.args.library.now c.args.file
      c.groups.first c.min-many.result (omega arith) (omega arith) c.requires.few
      c.groups.invariant.1 c.deal_group.ensures.apart (omega arith) c.groups.invariant.3 c.in_ok-deal_group.ensures.whole,
)
