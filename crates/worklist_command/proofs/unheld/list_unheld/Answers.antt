use Rattle.std.proofs.Common.{◌≡◌, true, [], ◌∷◌, subst}
use Rattle.std.specs.Option.{option_copied}
use Rattle.std.proofs.lemmas.Result.{on_ok_weaker}
use Rattle.entry_record.specs.History.{IsWithin}
use Rattle.console_lines.specs.Ends.{outcome}
use Rattle.output_files.specs.Outputs.{AreWritten, AreStopped}
use Rattle.worklist_command.specs.Working.{list_due}
use Rattle.worklist_command.proofs.ListedUnheld.{unheld_ended, unheld_untaken}
use Rattle.outside.proofs.Closings.{closed_but}
use Rattle.worklist_command.proofs.Rooms.{page_due, read_apart}
use Rattle.worklist_command.proofs.unheld.list_unheld.Goals as goal

-- the journal's bytes are not taken
pub returns-in-Err-read_catalogued-clause-ends : goal.returns-in-Err-read_catalogued-clause-ends
returns-in-Err-read_catalogued-clause-ends g c =
    let because = c.in-Err-read_catalogued.ensures in
    let t = c.tell-in-Err-read_catalogued.ensures in
    unheld_untaken _ _ _ _ _ c.in-Ok.bytes.items c.in-Ok.ensures.bytes c.limits_of-limits.result c.in-Err-read_catalogued.fault _ c.fault_of_look.ensures
    t.end t.told because.current c.read_file.ensures.stays because.unopened c.limits_of-limits.ensures

-- both were written, or could not be
pub returns-clause-closed : goal.returns-clause-closed
returns-clause-closed g c =
    let seen = g.R.Room.seen in
    let w = c.write_both-written.ensures in
    closed_but (seen c.args.room.now) (seen c.write_both-written.new.room) (c.args.list.now ∷ c.args.page.now ∷ [])
    (read_apart _ (seen c.read_file.new.room) _ _ c.read_file.ensures.stays w.apart) (w.closed, (w.page_closed, tt)) c.requires.closed

pub returns-clause-apart : goal.returns-clause-apart
returns-clause-apart g c = read_apart _ (g.R.Room.seen c.read_file.new.room) _ _ c.read_file.ensures.stays c.write_both-written.ensures.apart

pub returns-clause-ends : goal.returns-clause-ends
returns-clause-ends g c =
    let seen = g.R.Room.seen in
    let journal = c.args.journal.now in
    let list = c.args.list.now in
    let page = c.args.page.now in
    let code = option_copied c.args.code in
    let catalogued = c.in-Ok-read_catalogued.catalogued in
    let history = catalogued.core.history in
    let a = c.in-Ok-read_catalogued.ensures in
    let w = c.write_both-written.ensures in
    let e = c.end_of_both.ensures in
    let mid = seen c.read_file.new.room in
    let both = seen c.write_both-written.new.room in
    let written = c.write_both-written.result in
    let o = outcome g.R.Room.seen g.R.Out.Sink.written g.R.Out.Sink.faults c.args.room.now c.write_both-written.new.room c.args.console.now c.end_of_both.new.console c.end_of_both.result in
    let due = page_due history catalogued.brought catalogued.counted in
    unheld_ended journal list page code o c.in-Ok.bytes.items c.in-Ok.ensures.bytes mid c.read_file.ensures.stays history a.history
    (subst (λ l. IsWithin l history) c.limits_of-limits.ensures a.within) written
    (on_ok_weaker written (λ are. subst (λ shown. mid.tells ≡ true → AreWritten list page (list_due code history) shown both) due are) w.written)
    (λ which is. subst (λ shown. AreStopped (list ∷ []) list page (list_due code history) shown mid both which) due (w.stopped which is))
    w.memory e.done e.failed e.memory e.told e.silent
