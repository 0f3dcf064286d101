use Rattle.std.proofs.Common.{◌≡◌, ◌∙◌, true, [], ◌∷◌, subst}
use Rattle.std.specs.Option.{option_copied}
use Rattle.std.proofs.lemmas.Result.{on_ok_weaker}
use Rattle.console_lines.specs.Ends.{outcome}
use Rattle.outside.proofs.Rooms.{same_but_first}
use Rattle.output_files.specs.Outputs.{AreWritten, AreStopped}
use Rattle.outside.proofs.Closings.{closed_but, closed_one}
use Rattle.worklist_page.specs.Page.{page_of}
use Rattle.worklist_command.specs.Working.{list_due}
use Rattle.worklist_command.proofs.Ended.{listed_unopened, listed_ended, was_listed}
use Rattle.worklist_command.proofs.Rooms.{all_apart, all_stopped, all_written, closed_behind, page_due, still_untouched, without_page}
use Rattle.worklist_command.proofs.command.make_worklist.Goals as goal

-- the journal was not opened
pub returns-in-Err-clause-closed : goal.returns-in-Err-clause-closed
returns-in-Err-clause-closed g c = closed_one _ _ _ c.open_catalogued.ensures.apart c.in-Err.ensures.refused.closed c.requires.closed

pub returns-in-Err-clause-apart : goal.returns-in-Err-clause-apart
returns-in-Err-clause-apart g c = same_but_first _ _ c.args.journal.now (c.args.list.now ∷ c.args.page.now ∷ []) c.open_catalogued.ensures.apart

pub returns-in-Err-clause-ends : goal.returns-in-Err-clause-ends
returns-in-Err-clause-ends g c =
    let because = c.in-Err.ensures in
    listed_unopened _ _ _ _ _ c.in-Err.fault _ c.requires.names.1.0 c.fault_of_opening.ensures c.tell.ensures.end c.tell.ensures.told
    c.open_catalogued.ensures.apart because.current because.refused.so because.refused.keeps because.refused.kept because.refused.cause

-- the outputs were written, or could not be
pub returns-clause-closed : goal.returns-clause-closed
returns-clause-closed g c =
    let seen = g.R.Room.seen in
    let w = c.write_both-written.ensures in
    let closing = c.close_catalogued.ensures in
    let opened = c.open_catalogued.ensures.apart in
    let names = c.requires.names in
    let old = seen c.args.room.now in
    let mid = seen c.open_catalogued.new.room in
    let written = seen c.write_both-written.new.room in
    let new = seen c.close_catalogued.new.room in
    let journal = c.args.journal.now in
    let list = c.args.list.now in
    let page = c.args.page.now in
    closed_but old new (journal ∷ list ∷ page ∷ []) (all_apart old mid written new journal list page opened closing.apart w.apart) (
      closing.closed,
      (
        closed_behind old mid written new journal list page opened closing.apart list names.1.0 w.closed,
        (closed_behind old mid written new journal list page opened closing.apart page names.1.1.0 w.page_closed, tt),
      ),
    ) c.requires.closed

pub returns-clause-apart : goal.returns-clause-apart
returns-clause-apart g c =
    all_apart _ _ _ _ c.args.journal.now c.args.list.now c.args.page.now c.open_catalogued.ensures.apart c.close_catalogued.ensures.apart c.write_both-written.ensures.apart

pub returns-clause-ends : goal.returns-clause-ends
returns-clause-ends g c =
    let seen = g.R.Room.seen in
    let journal = c.args.journal.now in
    let list = c.args.list.now in
    let page = c.args.page.now in
    let code = option_copied c.args.code in
    let catalogued = c.in-Ok.catalogued in
    let history = catalogued.core.history in
    let a = c.in-Ok.ensures in
    let w = c.write_both-written.ensures in
    let e = c.end_of_both.ensures in
    let closing = c.close_catalogued.ensures in
    let opened = c.open_catalogued.ensures.apart in
    let names = c.requires.names in
    let old = seen c.args.room.now in
    let mid = seen c.open_catalogued.new.room in
    let both = seen c.write_both-written.new.room in
    let new = seen c.close_catalogued.new.room in
    let written = c.write_both-written.result in
    let o = outcome g.R.Room.seen g.R.Out.Sink.written g.R.Out.Sink.faults c.args.room.now c.close_catalogued.new.room c.args.console.now c.end_of_both.new.console c.end_of_both.result in
    let due = page_due history catalogued.brought catalogued.counted in
    let was = was_listed journal list page code o both (g.R.Log.Disk.seen catalogued.scan.journal.disk) history (λ tells. w.apart.tells ∙ opened.tells ∙ tells) closing.log
    a.history a.within a.log.kept in
    listed_ended journal list page code o history was written
    (on_ok_weaker written (λ are. all_written old mid both new journal list page opened closing.apart names.1.0 names.1.1.0 (list_due code history) (page_of history)
    (subst (λ shown. mid.tells ≡ true → AreWritten list page (list_due code history) shown both) due are)) w.written)
    (λ which is. all_stopped old mid both new journal list page opened closing.apart names.1.0 names.1.1.0 (list_due code history) (page_of history) which
    (subst (λ shown. AreStopped (list ∷ []) list page (list_due code history) shown mid both which) due (w.stopped which is)))
    (λ is. (without_page old mid both new journal list page opened closing.apart (w.memory is).0, still_untouched old mid both new journal list page opened closing.apart names.1.0 (w.memory is).1))
    e.done e.failed e.memory e.told e.silent
