use Rattle.std.proofs.lemmas.Result.{IfErr-weaker, err_from_is_err_and}
use Rattle.parts_commands.specs.Reading.{StopsSumming}
use Rattle.parts_commands.proofs.Found.{stops_first, stops_rest}
use Rattle.parts_commands.proofs.reports.join_reports.Goals as goal

pub returns-in_err-shared-clause-stopped : goal.returns-in_err-shared-clause-stopped
returns-in_err-shared-clause-stopped g c =
    let exit = err_from_is_err_and c.from_residual.result c.from_residual.ensures.1 in
    rw (exit.1, exit.2)
    (stops_first (g.R.Room.seen c.args.room.now) (g.R.Room.seen c.read_shared.new.room) c.args.first.now c.args.names.now c.in_err-shared.field-0.0
    c.read_shared.ensures.stays c.in_err-shared.ensures.stopped)

pub returns-clause-stopped : goal.returns-clause-stopped
returns-clause-stopped g c =
    let old = g.R.Room.seen c.args.room.now in
    let new = g.R.Room.seen c.sum_reports.new.room in
    IfErr-weaker c.sum_reports.result _ (StopsSumming old new c.args.first.now c.args.names.now)
    (λ why. stops_rest old (g.R.Room.seen c.read_shared.new.room) new c.args.first.now c.args.names.now _ why c.read_shared.ensures.stays c.sum_reports.ensures.stays
    c.in_ok-shared.ensures.shared) c.sum_reports.ensures.stopped
