use Rattle.std.proofs.Common.{◌≡◌, true, List, OnOk, IfOk, IfErr, refl, ap, subst, ◌∙◌}
use Rattle.marc_types.specs.declared.entry.Entry.{Entry}
use Rattle.outside.proofs.Rooms.{same_but_itself}
use Rattle.durable_catalogue.specs.Views.{durable_view}
use Rattle.loading_commands.specs.Texts.{files_text, has_refused}
use Rattle.loading_commands.specs.Runs.{AreOutputs}
use Rattle.loading_commands.proofs.Ended.{closed_load}
use Rattle.browsing_commands.specs.Pages.{ArePagesOf}
use Rattle.browsing_commands.specs.Browses.{AreUnpaged}
use Rattle.browsing_commands.proofs.Outcomes.{apart_browse, closed_browse, browsed_ended, browsed_to_memory}
use Rattle.browsing_commands.proofs.ending.end_whole.Goals as goal

pub returns-in-Err-clause-closed : goal.returns-in-Err-clause-closed
returns-in-Err-clause-closed g c = closed_load _ _ _ _ c.requires.free c.requires.apart c.close_journal.ensures.apart c.close_journal.ensures.closed

pub returns-in-Err-clause-ends : goal.returns-in-Err-clause-ends
returns-in-Err-clause-ends g c =
    let mid = g.R.Room.seen c.args.room.now in
    let last = c.close_journal.ensures in
    browsed_to_memory _ _ _ _ _ _ mid mid (durable_view c.args.loaded.durable) c.args.loaded.results c.requires.names c.requires.apart last.apart
    c.is_within_limits.ensures c.requires.loaded.whole refl last.log c.tell.ensures.end c.tell.ensures.told (same_but_itself _ _) last.closed

pub returns-clause-apart : goal.returns-clause-apart
returns-clause-apart g c = apart_browse _ _ _ _ _ _ _ _ c.requires.apart c.write_all-written.ensures.apart c.close_journal-2.ensures.apart

pub returns-clause-closed : goal.returns-clause-closed
returns-clause-closed g c =
    let w = c.write_all-written.ensures in
    closed_browse _ _ _ _ _ _ _ _ c.requires.free c.requires.apart w.apart w.closed w.report_closed w.pages_closed c.close_journal-2.ensures.apart
    c.close_journal-2.ensures.closed

pub returns-clause-ends : goal.returns-clause-ends
returns-clause-ends g c =
    let mid = g.R.Room.seen c.args.room.now in
    let wrote = g.R.Room.seen c.write_all-written.new.room in
    let written = c.write_all-written.result in
    let w = c.write_all-written.ensures in
    let last = c.close_journal-2.ensures in
    let e = c.end_of_outputs.ensures in
    let d = durable_view c.args.loaded.durable in
    let (due, got_is, lines_are) = c.in-Ok.ensures.lines in
    let are : ArePagesOf d.opened.opened d.entries due = subst (λ r. IfOk r (ArePagesOf d.opened.opened d.entries)) got_is c.requires.paged in
    let same = ap (λ core. core.history) c.core.ensures.value in
    browsed_ended _ _ _ _ _ _ mid wrote d c.args.loaded.results c.requires.names c.requires.apart last.apart
    c.is_within_limits.ensures c.requires.loaded.whole w.apart.tells last.log due are c.in-Ok.both.1.items lines_are written c.as_str.result.now c.has_refused-refused.result
    (c.as_str.ensures.value ∙ (c.in-Ok.ensures.console ∙ (ap (files_text c.as_slice-libraries.result.now) c.as_slice.ensures ∙ ap (λ ls. files_text ls c.args.loaded.results) c.as_slice-libraries.ensures)))
    (c.has_refused-refused.ensures ∙ ap has_refused c.as_slice-2.ensures)
    (subst (λ (es : List Entry). OnOk written (mid.tells ≡ true → AreOutputs wrote c.args.outputs.out.now c.args.outputs.report.now es)) same w.whole)
    w.paged
    (subst (λ (es : List Entry). IfErr written (AreUnpaged mid wrote c.args.outputs.out.now c.args.outputs.report.now c.args.pages.now es c.in-Ok.both.1.items)) same w.unwritten)
    e.whole e.unwritten e.silent e.memory e.told last.closed
