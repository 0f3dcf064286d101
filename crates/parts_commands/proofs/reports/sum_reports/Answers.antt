use Rattle.std.proofs.Common.{◌≡◌, ◌∙◌, ◌+◌, ◌*◌, true, [], ◌∷◌, ◌++◌, take, drop, sym, ap, subst, arith}
use Rattle.std.proofs.lemmas.Result.{err_from_is_err_and}
use Rattle.outside.proofs.Rooms.{same_but_then}
use Rattle.parts_commands.specs.Reading.{IsAdded, greatest, numbers_of}
use Rattle.parts_commands.proofs.Found.{more_room, stops_among, summed_next}
use Rattle.parts_commands.proofs.Read.{parts_at}
use Rattle.parts_commands.proofs.reports.sum_reports.Goals as goal

pub returns-in_err-add_report-clause-stopped : goal.returns-in_err-add_report-clause-stopped
returns-in_err-add_report-clause-stopped g c =
    let exit = err_from_is_err_and c.from_residual.result c.from_residual.ensures.1 in
    let names = c.args.names.now in
    let i = c.loop-name.name-index in
    rw (exit.1, exit.2)
    (stops_among (g.R.Room.seen c.args.room.now) (g.R.Room.seen c.loop-name.room) (g.R.Room.seen c.add_report.new.room) c.args.shared.now names
    (take i names) (drop (i + 1) names) c.as_str.result.now c.in_err-add_report.field-0.0 c.loop-name.invariant.stays c.add_report.ensures.stays
    (parts_at names i c.name-item.result (omega arith) c.name-item.is ∙ ap (λ n. take i names ++ n ∷ drop (i + 1) names) (sym c.as_str.ensures))
    c.in_err-add_report.ensures.stopped)

pub loop-name-preserved : goal.loop-name-preserved
loop-name-preserved g c =
    let now = g.R.Room.seen c.loop-name.room in
    record {
      stays = same_but_then _ _ _ [] c.loop-name.invariant.stays c.add_report.ensures.stays;
      summed = summed_next (g.R.Room.seen c.args.room.now) now c.args.shared.now (numbers_of c.loop-name.sums) (numbers_of c.add_report.new.sums) c.args.names.now
          c.loop-name.name-index c.name-item.result c.loop-name.invariant.stays c.loop-name.invariant.summed
          (subst (λ n. now.tells ≡ true → IsAdded now.file c.args.shared.now n (numbers_of c.loop-name.sums) (numbers_of c.add_report.new.sums))
          c.as_str.ensures c.in_ok-add_report.ensures.adds) (omega arith) c.name-item.is;
      most = more_room c.loop-name.name-index (numbers_of c.add_report.new.sums)
          (c.in_ok-add_report.ensures.most ((c.loop-name.name-index + 1) * greatest) c.loop-name.invariant.most);
    }
