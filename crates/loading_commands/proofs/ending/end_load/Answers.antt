use Rattle.std.proofs.Common.{length, refl, sym, ap, ◌∙◌}
use Rattle.durable_catalogue.specs.Views.{durable_view}
use Rattle.outside.proofs.Rooms.{same_but_then}
use Rattle.loading_commands.specs.Texts.{files_text, has_refused}
use Rattle.loading_commands.specs.Runs.{NoMemory}
use Rattle.loading_commands.proofs.OneHistory.{merged_by}
use Rattle.loading_commands.proofs.Ended.{closed_load, loads_failed, loads_told, no_memory}
use Rattle.loading_commands.proofs.ending.end_load.Goals as goal

pub files_text-text-requires : goal.files_text-text-requires
files_text-text-requires g c = ap length c.as_slice-libraries.ensures ∙ (sym c.requires.loaded.count ∙ ap length (sym c.as_slice.ensures))

pub close_journal-requires-after_bounds : goal.close_journal-requires-after_bounds
close_journal-requires-after_bounds g c κs within = c.requires.loaded.is_open

pub returns-in-Ok-clause-apart : goal.returns-in-Ok-clause-apart
returns-in-Ok-clause-apart g c = same_but_then _ _ _ _ c.requires.apart c.close_journal.ensures.apart

pub returns-in-Ok-clause-closed : goal.returns-in-Ok-clause-closed
returns-in-Ok-clause-closed g c = closed_load _ _ _ _ c.requires.free c.requires.apart c.close_journal.ensures.apart c.close_journal.ensures.closed

pub returns-in-Ok-clause-ends : goal.returns-in-Ok-clause-ends
returns-in-Ok-clause-ends g c =
    let seen = g.R.Room.seen in
    let l = c.requires.loaded in
    loads_told _ _ _ c.args.loaded.durable.core.history c.args.loaded.results (record {
      text = c.as_str.result.now;
      refused = c.has_refused.result;
      told = c.tell_result.ensures;
      refused_is = c.has_refused.ensures ∙ ap has_refused c.as_slice-in-Ok.ensures;
      text_is = c.as_str.ensures.value ∙ (c.in-Ok.ensures ∙ (ap (files_text c.as_slice-libraries.result.now) c.as_slice.ensures ∙ ap (λ ls. files_text ls c.args.loaded.results) c.as_slice-libraries.ensures));
    }) (λ tells.
    merged_by (seen c.args.loaded.before.value) (seen c.close_journal.new.room) c.args.loaded.asked.journal.now c.args.loaded.asked.libraries (durable_view c.args.loaded.durable) c.args.loaded.results
    c.is_within_limits.ensures (l.whole tells) (λ told. c.close_journal.ensures.log (c.requires.apart.tells ∙ tells) told) tells)

pub returns-clause-apart : goal.returns-clause-apart
returns-clause-apart g c = same_but_then _ _ _ _ c.requires.apart c.close_journal.ensures.apart

pub returns-clause-closed : goal.returns-clause-closed
returns-clause-closed g c = closed_load _ _ _ _ c.requires.free c.requires.apart c.close_journal.ensures.apart c.close_journal.ensures.closed

pub returns-clause-ends : goal.returns-clause-ends
returns-clause-ends g c =
    let seen = g.R.Room.seen in
    let l = c.requires.loaded in
    loads_failed _ _ _ _ c.tell.ensures.end c.tell.ensures.told (no_memory _ _ _ _ _ c.close_journal.ensures.closed (λ tells. NoMemory refl (
    merged_by (seen c.args.loaded.before.value) (seen c.close_journal.new.room) c.args.loaded.asked.journal.now c.args.loaded.asked.libraries (durable_view c.args.loaded.durable) c.args.loaded.results
    c.is_within_limits.ensures (l.whole tells) (λ told. c.close_journal.ensures.log (c.requires.apart.tells ∙ tells) told) tells).merged))
