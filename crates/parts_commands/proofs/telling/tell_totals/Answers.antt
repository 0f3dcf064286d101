use Rattle.std.proofs.Common.{subst}
use Rattle.console_lines.specs.Ends.{outcome}
use Rattle.parts_commands.specs.Reading.{StopsSumming}
use Rattle.parts_commands.proofs.Tellings.{tells_difference}
use Rattle.parts_commands.proofs.telling.tell_totals.Goals as goal

pub returns-in-Err-Differ-clause-ends : goal.returns-in-Err-Differ-clause-ends
returns-in-Err-Differ-clause-ends g c =
    let old = g.R.Room.seen c.args.room.now in
    let new = g.R.Room.seen c.join_reports.new.room in
    tells_difference c.args.first.now c.args.reports.now
    (outcome g.R.Room.seen g.R.Out.Sink.written g.R.Out.Sink.faults c.args.room.now c.join_reports.new.room c.args.console.now c.tell_difference.new.console
    c.tell_difference.result) c.tell_difference.ensures.end
    (record {
      place = c.in-Err-Differ.place;
      name = c.in-Err-Differ.name.now;
      line = rw (c.in-Err-Differ.field-0-is) at c.tell_difference.ensures.told;
      so = subst (StopsSumming old new c.args.first.now c.args.reports.now) c.in-Err-Differ.field-0-is c.in-Err-Differ.ensures.stopped;
    })
