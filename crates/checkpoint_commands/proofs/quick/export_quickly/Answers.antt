use Rattle.std.proofs.Common.{◌∙◌, ◌∷◌, refl, ap, subst}
use Rattle.std.specs.Option.{option_copied}
use Rattle.outside.proofs.Rooms.{same_but_first}
use Rattle.console_lines.specs.declared.end.End.TheVariants.{Told}
use Rattle.console_lines.specs.Faults.{IsFaultTold, fault_line}
use Rattle.outside.proofs.Closings.{closed_one}
use Rattle.checkpoint_commands.specs.Exporting.{outputs_of}
use Rattle.checkpoint_commands.proofs.Over.{closed_all, apart_all}
use Rattle.checkpoint_commands.proofs.Exports.{quick_unopened, quick_done, quick_untold, quick_stopped}
use Rattle.checkpoint_commands.proofs.quick.export_quickly.Goals as goal

-- the journal was not opened
pub returns-in-Err-clause-closed : goal.returns-in-Err-clause-closed
returns-in-Err-clause-closed g c =
    closed_one _ _ c.args.journal.now c.open_history.ensures.apart c.in-Err.ensures.refused.closed c.requires.closed

pub returns-in-Err-clause-apart : goal.returns-in-Err-clause-apart
returns-in-Err-clause-apart g c = same_but_first _ _ c.args.journal.now (c.args.point.now ∷ outputs_of c.args.out.now (option_copied c.args.report)) c.open_history.ensures.apart

pub returns-in-Err-clause-ends : goal.returns-in-Err-clause-ends
returns-in-Err-clause-ends g c =
    let because = c.in-Err.ensures in
    let written = g.R.Out.Sink.written in
    let faults = g.R.Out.Sink.faults in
    let console = c.args.console.now in
    let now = c.tell.new.console in
    quick_unopened c.args.journal.now c.args.point.now c.args.out.now (option_copied c.args.report) _ c.in-Err.fault (c.tell.ensures.end ∙ ap Told c.fault_of_opening.ensures)
    (subst (λ f. IsFaultTold (written console) (written now) (faults console) (faults now) (fault_line f)) c.fault_of_opening.ensures c.tell.ensures.told)
    c.requires.apart.0 because.current c.open_history.ensures.apart because.refused

-- the export is there, and the console was told
pub returns-in-Ok-write_resumed-clause-closed : goal.returns-in-Ok-write_resumed-clause-closed
returns-in-Ok-write_resumed-clause-closed g c =
    let w = c.write_from-written.ensures in
    closed_all _ _ _ _ c.args.journal.now (c.args.point.now ∷ outputs_of c.args.out.now (option_copied c.args.report)) c.open_history.ensures.apart w.apart
    c.close_history.ensures.apart w.closed c.close_history.ensures.closed c.requires.closed

pub returns-in-Ok-write_resumed-clause-apart : goal.returns-in-Ok-write_resumed-clause-apart
returns-in-Ok-write_resumed-clause-apart g c =
    apart_all _ _ _ _ c.args.journal.now (c.args.point.now ∷ outputs_of c.args.out.now (option_copied c.args.report)) c.open_history.ensures.apart
    c.write_from-written.ensures.apart c.close_history.ensures.apart

pub returns-in-Ok-write_resumed-clause-ends : goal.returns-in-Ok-write_resumed-clause-ends
returns-in-Ok-write_resumed-clause-ends g c =
    let room = g.R.Room.seen in
    let opened = c.in-Ok.ensures in
    let taken = opened.taken in
    let w = c.write_from-written.ensures in
    let closing = c.close_history.ensures in
    quick_done c.args.journal.now c.args.point.now c.args.out.now (option_copied c.args.report) c.requires.apart.0 c.requires.apart.1 _ (room c.open_history.new.room)
    (room c.write_from-written.new.room)
    (g.R.Log.Disk.seen c.in-Ok.log.journal.disk) c.as_slice-entries.result.now taken.entries (c.as_slice-entries.ensures ∙ taken.taken) c.write_from-written.result
    c.open_history.ensures.apart w.apart closing.apart taken.history taken.within opened.log.kept closing.log w.keeps
    c.in-Ok-written.taken c.in-Ok-written.is c.in-Ok-written.ensures.written _ refl refl c.in-Ok-write_resumed.ensures.line

-- or the console couldn't be written
pub returns-in-Err-write_resumed-clause-closed : goal.returns-in-Err-write_resumed-clause-closed
returns-in-Err-write_resumed-clause-closed g c =
    let w = c.write_from-written.ensures in
    closed_all _ _ _ _ c.args.journal.now (c.args.point.now ∷ outputs_of c.args.out.now (option_copied c.args.report)) c.open_history.ensures.apart w.apart
    c.close_history.ensures.apart w.closed c.close_history.ensures.closed c.requires.closed

pub returns-in-Err-write_resumed-clause-apart : goal.returns-in-Err-write_resumed-clause-apart
returns-in-Err-write_resumed-clause-apart g c =
    apart_all _ _ _ _ c.args.journal.now (c.args.point.now ∷ outputs_of c.args.out.now (option_copied c.args.report)) c.open_history.ensures.apart
    c.write_from-written.ensures.apart c.close_history.ensures.apart

pub returns-in-Err-write_resumed-clause-ends : goal.returns-in-Err-write_resumed-clause-ends
returns-in-Err-write_resumed-clause-ends g c =
    let room = g.R.Room.seen in
    let opened = c.in-Ok.ensures in
    let taken = opened.taken in
    let w = c.write_from-written.ensures in
    let closing = c.close_history.ensures in
    quick_untold c.args.journal.now c.args.point.now c.args.out.now (option_copied c.args.report) c.requires.apart.0 c.requires.apart.1 _ (room c.open_history.new.room)
    (room c.write_from-written.new.room)
    (g.R.Log.Disk.seen c.in-Ok.log.journal.disk) c.as_slice-entries.result.now taken.entries (c.as_slice-entries.ensures ∙ taken.taken) c.write_from-written.result
    c.open_history.ensures.apart w.apart closing.apart taken.history taken.within opened.log.kept closing.log w.keeps
    c.in-Ok-written.taken c.in-Ok-written.is c.in-Ok-written.ensures.written _ refl refl c.write_resumed.ensures.front c.in-Err-write_resumed.ensures.cause.failed

-- the export isn't there
pub returns-in-Err-written-clause-closed : goal.returns-in-Err-written-clause-closed
returns-in-Err-written-clause-closed g c =
    let w = c.write_from-written.ensures in
    closed_all _ _ _ _ c.args.journal.now (c.args.point.now ∷ outputs_of c.args.out.now (option_copied c.args.report)) c.open_history.ensures.apart w.apart
    c.close_history.ensures.apart w.closed c.close_history.ensures.closed c.requires.closed

pub returns-in-Err-written-clause-apart : goal.returns-in-Err-written-clause-apart
returns-in-Err-written-clause-apart g c =
    apart_all _ _ _ _ c.args.journal.now (c.args.point.now ∷ outputs_of c.args.out.now (option_copied c.args.report)) c.open_history.ensures.apart
    c.write_from-written.ensures.apart c.close_history.ensures.apart

pub returns-in-Err-written-clause-ends : goal.returns-in-Err-written-clause-ends
returns-in-Err-written-clause-ends g c =
    let room = g.R.Room.seen in
    let opened = c.in-Ok.ensures in
    let taken = opened.taken in
    let w = c.write_from-written.ensures in
    let closing = c.close_history.ensures in
    quick_stopped c.args.journal.now c.args.point.now c.args.out.now (option_copied c.args.report) c.requires.apart.0 c.requires.apart.1 _ (room c.open_history.new.room)
    (room c.write_from-written.new.room)
    (g.R.Log.Disk.seen c.in-Ok.log.journal.disk) c.as_slice-entries.result.now taken.entries (c.as_slice-entries.ensures ∙ taken.taken) c.write_from-written.result
    c.open_history.ensures.apart w.apart closing.apart taken.history taken.within opened.log.kept closing.log w.keeps
    c.in-Err-written.fault c.in-Err-written.is c.end_of_fault.ensures.refused c.end_of_fault.ensures.told c.end_of_fault.ensures.unwritten
    c.end_of_fault.ensures.silent c.in-Err-written.ensures.refused
