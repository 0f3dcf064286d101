use Rattle.std.proofs.Common.{subst}
use Rattle.output_files.specs.Outputs.{IsOutputLeft}
use Rattle.archive_commands.proofs.writing.write_due.Goals as goal

pub returns-in-Ok-clause-left : goal.returns-in-Ok-clause-left
returns-in-Ok-clause-left g c told =
    let seen = g.R.Room.seen in
    rw c.in-Export.is
    (subst (IsOutputLeft (seen c.args.room.now) (seen c.write_document.new.room) c.args.out.now) c.in-Ok.ensures (c.write_document.ensures.left told))

pub returns-in-Ok-report_bytes-clause-left : goal.returns-in-Ok-report_bytes-clause-left
returns-in-Ok-report_bytes-clause-left g c told =
    let seen = g.R.Room.seen in
    let written = c.write_document-in-Ok-report_bytes in
    rw c.in-Report.is
    (subst (IsOutputLeft (seen c.args.room.now) (seen written.new.room) c.args.out.now) c.in-Ok-report_bytes.ensures (written.ensures.left told))
