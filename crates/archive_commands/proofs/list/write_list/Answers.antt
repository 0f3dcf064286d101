use Rattle.std.proofs.Common.{subst}
use Rattle.outside.proofs.Rooms.{same_but_none, same_but_then}
use Rattle.output_files.specs.Outputs.{IsOutputLeft}
use Rattle.output_files.proofs.Logs.{output_closed}
use Rattle.outside.proofs.Closings.{apart_closed}
use Rattle.command_words.specs.Asked.{range_asked}
use Rattle.heading_list.specs.Telling.{headings_due}
use Rattle.archive_commands.proofs.list.write_list.Goals as goal

pub returns-clause-apart : goal.returns-clause-apart
returns-clause-apart g c = apart_closed _ _ _ _ _ c.write_headings-written.ensures.apart c.close_archive.ensures.apart

pub returns-clause-memory : goal.returns-clause-memory
returns-clause-memory g c ran_out =
    same_but_then _ _ _ _ (same_but_none _ _ _ (c.write_headings-written.ensures.unbegun ran_out)) c.close_archive.ensures.apart

pub returns-clause-output : goal.returns-clause-output
returns-clause-output g c =
    let seen = g.R.Room.seen in
    let old = seen c.args.room.now in
    let written = seen c.write_headings-written.new.room in
    let new = seen c.close_archive.new.room in
    let out = c.args.out.now in
    let due = headings_due (range_asked c.args.range) in
    output_closed old written new c.args.journal.now out (due c.args.archive.core.history) c.write_headings-written.result
    c.requires.opened c.requires.free c.close_archive.ensures.apart c.write_headings-written.ensures.closed
    (λ told. subst (λ core. IsOutputLeft old written out (due core.history)) c.core.ensures.value (c.write_headings-written.ensures.left told))
    c.write_headings-written.ensures.cause
