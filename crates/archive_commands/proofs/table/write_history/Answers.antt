use Rattle.outside.proofs.Rooms.{same_but_none, same_but_then}
use Rattle.output_files.proofs.Logs.{output_closed}
use Rattle.match_report.specs.Groups.{lines_of, matches_of}
use Rattle.archive_commands.proofs.table.write_history.Goals as goal

pub returns-clause-output : goal.returns-clause-output
returns-clause-output g c =
    let seen = g.R.Room.seen in
    let written = c.write_table-written.ensures in
    output_closed (seen c.args.room.now) (seen c.write_table-written.new.room) (seen c.close_history.new.room) c.args.journal.now c.args.out.now
    (lines_of (matches_of c.args.table.now)) c.write_table-written.result c.requires.opened c.requires.free c.close_history.ensures.apart
    written.closed written.left written.cause

pub returns-clause-memory : goal.returns-clause-memory
returns-clause-memory g c ran_out =
    same_but_then _ _ _ _ (same_but_none _ _ _ (c.write_table-written.ensures.memory ran_out)) c.close_history.ensures.apart
