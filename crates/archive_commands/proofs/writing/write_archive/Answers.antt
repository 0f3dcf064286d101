use Rattle.std.proofs.Common.{subst}
use Rattle.outside.proofs.Rooms.{same_but_none, same_but_then}
use Rattle.output_files.specs.Outputs.{IsOutputLeft}
use Rattle.archive_commands.specs.Reads.{due_view, due_of}
use Rattle.outside.proofs.Closings.{apart_closed}
use Rattle.output_files.proofs.Logs.{output_closed}
use Rattle.archive_commands.proofs.writing.write_archive.Goals as goal

pub returns-clause-apart : goal.returns-clause-apart
returns-clause-apart g c = apart_closed _ _ _ _ _ c.write_due-written.ensures.apart c.close_archive.ensures.apart

pub returns-clause-memory : goal.returns-clause-memory
returns-clause-memory g c ran_out =
    same_but_then _ _ _ _ (same_but_none _ _ _ (c.write_due-written.ensures.unbegun ran_out)) c.close_archive.ensures.apart

pub returns-clause-output : goal.returns-clause-output
returns-clause-output g c =
    let seen = g.R.Room.seen in
    let old = seen c.args.room.now in
    let written = seen c.write_due-written.new.room in
    let new = seen c.close_archive.new.room in
    let out = c.args.out.now in
    let due = due_of (due_view c.args.due) in
    output_closed old written new c.args.journal.now out (due c.args.archive.core.history) c.write_due-written.result
    c.requires.opened c.requires.free c.close_archive.ensures.apart c.write_due-written.ensures.closed
    (λ told. subst (λ core. IsOutputLeft old written out (due core.history)) c.core.ensures.value (c.write_due-written.ensures.left told))
    c.write_due-written.ensures.cause
