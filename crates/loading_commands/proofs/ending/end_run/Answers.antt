use Rattle.std.proofs.Common.{◌≡◌, true, List, OnOk, IfErr, length, sym, ap, subst, ◌∙◌}
use Rattle.marc_types.specs.declared.entry.Entry.{Entry}
use Rattle.outside.proofs.Rooms.{same_but_itself, same_but_first, same_but_then}
use Rattle.durable_catalogue.specs.Views.{durable_view}
use Rattle.loading_commands.specs.Outputs.{AreUnwritten}
use Rattle.loading_commands.specs.Texts.{files_text, has_refused}
use Rattle.loading_commands.specs.Runs.{AreOutputs}
use Rattle.loading_commands.proofs.Ended.{apart_run, closed_load, closed_run}
use Rattle.loading_commands.proofs.Written.{nothing_begun}
use Rattle.loading_commands.proofs.Ran.{ran_to_memory, ran_ended}
use Rattle.loading_commands.proofs.ending.end_run.Goals as goal

pub files_text-requires : goal.files_text-requires
files_text-requires g c = ap length c.as_slice-libraries.ensures ∙ (sym c.requires.loaded.count ∙ ap length (sym c.as_slice.ensures))

pub close_journal-requires-after_bounds : goal.close_journal-requires-after_bounds
close_journal-requires-after_bounds g c κs within = c.requires.loaded.is_open

pub returns-in-Err-clause-apart : goal.returns-in-Err-clause-apart
returns-in-Err-clause-apart g c =
    same_but_first _ _ _ _ (same_but_then _ _ _ _ c.requires.apart c.close_journal.ensures.apart)

pub returns-in-Err-clause-closed : goal.returns-in-Err-clause-closed
returns-in-Err-clause-closed g c = closed_load _ _ _ _ c.requires.free c.requires.apart c.close_journal.ensures.apart c.close_journal.ensures.closed

pub returns-in-Err-clause-ends : goal.returns-in-Err-clause-ends
returns-in-Err-clause-ends g c =
    let mid = g.R.Room.seen c.args.room.now in
    let last = c.close_journal.ensures in
    ran_to_memory _ _ _ _ _ mid mid (durable_view c.args.loaded.durable) c.args.loaded.results c.requires.names c.requires.apart (same_but_itself _ _) last.apart
    c.is_within_limits.ensures c.requires.loaded.whole last.log (nothing_begun _ _ _ _ _ (same_but_itself _ _))
    c.tell.ensures.end c.tell.ensures.told last.closed

pub returns-clause-apart : goal.returns-clause-apart
returns-clause-apart g c =
    apart_run _ _ _ _ _ _ _ c.requires.apart c.write_outputs-written.ensures.apart c.close_journal-2.ensures.apart

pub returns-clause-closed : goal.returns-clause-closed
returns-clause-closed g c =
    closed_run _ _ _ _ _ _ _ c.requires.free c.requires.apart c.write_outputs-written.ensures.apart c.write_outputs-written.ensures.closed c.write_outputs-written.ensures.report_closed
    c.close_journal-2.ensures.apart c.close_journal-2.ensures.closed

pub returns-clause-ends : goal.returns-clause-ends
returns-clause-ends g c =
    let mid = g.R.Room.seen c.args.room.now in
    let wrote = g.R.Room.seen c.write_outputs-written.new.room in
    let written = c.write_outputs-written.result in
    let w = c.write_outputs-written.ensures in
    let last = c.close_journal-2.ensures in
    let e = c.end_of_outputs.ensures in
    let same = ap (λ core. core.history) c.core.ensures.value in
    ran_ended _ _ _ _ _ mid wrote (durable_view c.args.loaded.durable) c.args.loaded.results c.requires.names c.requires.apart w.apart last.apart
    c.is_within_limits.ensures c.requires.loaded.whole last.log written c.as_str.result.now c.has_refused-refused.result
    (c.as_str.ensures.value ∙ (c.in-Ok.ensures ∙ (ap (files_text c.as_slice-libraries.result.now) c.as_slice.ensures ∙ ap (λ ls. files_text ls c.args.loaded.results) c.as_slice-libraries.ensures)))
    (c.has_refused-refused.ensures ∙ ap has_refused c.as_slice-2.ensures)
    (subst (λ (es : List Entry). OnOk written (mid.tells ≡ true → AreOutputs wrote c.args.outputs.out.now c.args.outputs.report.now es)) same w.whole)
    (subst (λ (es : List Entry). IfErr written (AreUnwritten mid wrote c.args.outputs.out.now c.args.outputs.report.now es)) same w.unwritten)
    e.whole e.unwritten e.silent e.memory e.told last.closed
