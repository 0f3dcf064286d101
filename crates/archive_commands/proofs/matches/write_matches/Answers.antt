use Rattle.std.proofs.Common.{◌≡◌, true, Some, OnOk, subst}
use Rattle.output_files.specs.Outputs.{IsOutput}
use Rattle.outside.proofs.Closings.{closed_opened}
use Rattle.archive_commands.proofs.Endings.{reads_unopened, reads_output}
use Rattle.archive_commands.specs.Telling.{matches_due}
use Rattle.archive_commands.proofs.Taken.{due_of_table}
use Rattle.archive_commands.proofs.matches.write_matches.Goals as goal

pub returns-in-Err-clause-ends : goal.returns-in-Err-clause-ends
returns-in-Err-clause-ends g c =
    let because = c.in-Err.ensures in
    reads_unopened _ _ matches_due _ c.in-Err.fault _ c.fault_of_opening.ensures c.tell.ensures.end c.tell.ensures.told c.open_history.ensures.apart
    because.current because.refused.so because.refused.keeps because.refused.kept because.refused.cause

pub returns-clause-ends : goal.returns-clause-ends
returns-clause-ends g c =
    let mid = g.R.Room.seen c.open_history.new.room in
    let new = g.R.Room.seen c.write_history-written.new.room in
    let written = c.write_history-written.result in
    let opened = c.in-Ok.ensures in
    let taken = opened.taken in
    let due = due_of_table c.open_history.new.taker.table taken.entries taken.taken in
    let w = c.write_history-written.ensures in
    let e = c.end_of_output.ensures in
    reads_output _ _ matches_due _ mid (g.R.Log.Disk.seen c.in-Ok.history.journal.disk) taken.entries written c.requires.differ c.open_history.ensures.apart
    taken.history taken.within opened.log.kept w.log (subst (λ bytes. IsOutput mid new c.args.out.now bytes written) due w.output)
    (subst (λ bytes. OnOk written (mid.tells ≡ true → new.file c.args.out.now ≡ Some bytes)) due w.bytes) w.memory e.done e.failed e.memory e.told e.silent

pub returns-clause-closed : goal.returns-clause-closed
returns-clause-closed g c =
    let w = c.write_history-written.ensures in
    closed_opened _ _ _ _ _ c.open_history.ensures.apart w.apart w.closed w.output.closed c.requires.closed
