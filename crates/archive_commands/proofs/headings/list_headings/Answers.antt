use Rattle.outside.proofs.Closings.{apart_opened, closed_opened}
use Rattle.archive_commands.proofs.Endings.{reads_unopened, reads_output}
use Rattle.archive_commands.proofs.headings.list_headings.Goals as goal

pub returns-in-Err-clause-ends : goal.returns-in-Err-clause-ends
returns-in-Err-clause-ends g c =
    let because = c.in-Err.ensures in
    reads_unopened _ _ _ _ c.in-Err.fault _ c.fault_of_opening.ensures c.tell.ensures.end c.tell.ensures.told c.open_archive.ensures.apart
    because.current because.refused.so because.refused.keeps because.refused.kept because.refused.cause

pub returns-clause-apart : goal.returns-clause-apart
returns-clause-apart g c = apart_opened _ _ _ _ _ c.open_archive.ensures.apart c.write_list-written.ensures.apart

pub returns-clause-closed : goal.returns-clause-closed
returns-clause-closed g c =
    let w = c.write_list-written.ensures in
    closed_opened _ _ _ _ _ c.open_archive.ensures.apart w.apart w.closed w.output.closed c.requires.closed

pub returns-clause-ends : goal.returns-clause-ends
returns-clause-ends g c =
    let a = c.in-Ok.ensures in
    let w = c.write_list-written.ensures in
    let e = c.end_of_output.ensures in
    reads_output _ _ _ _ (g.R.Room.seen c.open_archive.new.room) (g.R.Log.Disk.seen c.in-Ok.archive.journal.disk) _ c.write_list-written.result
    c.requires.differ c.open_archive.ensures.apart a.history a.within a.log.kept w.log w.output w.bytes w.memory e.done e.failed e.memory e.told e.silent
