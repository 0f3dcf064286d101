use Rattle.std.proofs.Common.{◌≡◌, true, length, refl, subst}
use Rattle.std.proofs.lemmas.Result.{err_from_is_err_and}
use Rattle.split_command.specs.Names.{split_names}
use Rattle.split_command.specs.Standing.{TellsFree}
use Rattle.split_command.specs.declared.plan.Plan.{Plan}
use Rattle.split_command.proofs.Brought.{brought_whole, brought_part}
use Rattle.split_command.proofs.splitting.split_files.Goals as goal

pub returns-in_err-write_all-clause-stopped : goal.returns-in_err-write_all-clause-stopped
returns-in_err-write_all-clause-stopped g c =
    let is : c.in_ok-is_free.field-0 ≡ true = c.if-not-branch.false in
    let free = subst (TellsFree (g.R.Room.seen c.args.room.now) (split_names c.args.prefix.now c.args.parts (length c.args.libraries.now))) is c.in_ok-is_free.ensures in
    let plan : Plan = record { parts = c.args.parts; prefix = c.in_ok-from_str.field-0; bounds = c.in_ok-into_bounds.field-0 } in
    let exit = err_from_is_err_and c.from_residual-in_err-write_all.result c.from_residual-in_err-write_all.ensures.1 in
    rw (exit.1, exit.2)
    (brought_part c.args.parts c.args.prefix.now c.args.libraries.now (g.R.Room.seen c.args.room.now) (g.R.Room.seen c.survey_files.new.room) (g.R.Room.seen c.write_all.new.room)
    c.in_ok-sample.field-0 plan c.in_ok-from_str.ensures refl free c.survey_files.ensures.stays c.in_ok-sample.ensures.read c.in_ok-into_bounds.ensures.ascend
    c.in_ok-into_bounds.ensures.many
    c.in_err-write_all.field-0.0 c.in_err-write_all.ensures.writes.cause c.write_all.ensures.writes.left)

pub returns-clause-written : goal.returns-clause-written
returns-clause-written g c =
    let is : c.in_ok-is_free.field-0 ≡ true = c.if-not-branch.false in
    let free = subst (TellsFree (g.R.Room.seen c.args.room.now) (split_names c.args.prefix.now c.args.parts (length c.args.libraries.now))) is c.in_ok-is_free.ensures in
    let plan : Plan = record { parts = c.args.parts; prefix = c.in_ok-from_str.field-0; bounds = c.in_ok-into_bounds.field-0 } in
    brought_whole c.args.parts c.args.prefix.now c.args.libraries.now (g.R.Room.seen c.args.room.now) (g.R.Room.seen c.survey_files.new.room) (g.R.Room.seen c.write_all.new.room)
    c.in_ok-sample.field-0 plan c.in_ok-from_str.ensures refl free c.survey_files.ensures.stays c.in_ok-sample.ensures.read c.in_ok-into_bounds.ensures.ascend
    c.in_ok-into_bounds.ensures.many
    _ refl refl c.in_ok-write_all.ensures.writes.whole
