use Rattle.std.proofs.Common.{◌∙◌, [], ◌∷◌, OnOk, sym, ap, subst, arith}
use Rattle.std.specs.Option.{option_copied}
use Rattle.std.proofs.lemmas.Result.{IfErr-weaker, on_ok_weaker}
use Rattle.outside.proofs.Rooms.{same_but_first, same_but_then}
use Rattle.console_lines.specs.Ends.{outcome, IsResultTold}
use Rattle.console_lines.specs.Faults.{IsFaultTold, fault_line}
use Rattle.console_lines.specs.declared.end.End.TheVariants.{Told}
use Rattle.catalogue_core.specs.Catalogues.{Catalogued}
use Rattle.catalogue_rules.specs.Settle.{state_of}
use Rattle.durable_catalogue.specs.Logs.{HasHistory}
use Rattle.entry_record.specs.History.{IsWithin}
use Rattle.journal_files.specs.Journals.{journal_limits, log_bytes}
use Rattle.holdings_command.specs.Ready.{IsReady}
use Rattle.outside.proofs.Closings.{closed_but, closed_one}
use Rattle.holdings_command.proofs.Rooms.{opened_alone, all_apart, closed_behind, all_written, all_stopped, read_there}
use Rattle.holdings_command.proofs.Endings.{attaches_unopened, was_opened, attaches_unread, attaches_ended}
use Rattle.holdings_command.proofs.command.attach_holdings.Goals as goal

-- the journal was not opened
pub returns-in-Err-clause-closed : goal.returns-in-Err-clause-closed
returns-in-Err-clause-closed g c = closed_one _ _ _ c.open_archive.ensures.apart c.in-Err.ensures.refused.closed c.requires.closed

pub returns-in-Err-clause-apart : goal.returns-in-Err-clause-apart
returns-in-Err-clause-apart g c = same_but_first _ _ c.args.journal.now (c.args.out.now ∷ c.args.rest.now ∷ []) c.open_archive.ensures.apart

pub returns-in-Err-clause-ends : goal.returns-in-Err-clause-ends
returns-in-Err-clause-ends g c =
    let because = c.in-Err.ensures in
    let written = g.R.Out.Sink.written in
    let faults = g.R.Out.Sink.faults in
    let console = c.args.console.now in
    let now = c.tell.new.console in
    attaches_unopened _ _ _ _ _ _ c.in-Err.fault (c.tell.ensures.end ∙ ap Told c.fault_of_opening.ensures)
    (subst (λ f. IsFaultTold (written console) (written now) (faults console) (faults now) (fault_line f)) c.fault_of_opening.ensures c.tell.ensures.told)
    c.open_archive.ensures.apart because.current because.refused.so because.refused.keeps because.refused.cause

-- the file was not read, or memory ran out over it
pub returns-in-Err-prepare-clause-closed : goal.returns-in-Err-prepare-clause-closed
returns-in-Err-prepare-clause-closed g c =
    let closing = c.close_archive.ensures in
    closed_one _ _ c.args.journal.now (opened_alone _ _ _ _ _ c.open_archive.ensures.apart c.prepare.ensures.stays closing.apart) closing.closed c.requires.closed

pub returns-in-Err-prepare-clause-apart : goal.returns-in-Err-prepare-clause-apart
returns-in-Err-prepare-clause-apart g c =
    let closing = c.close_archive.ensures in
    same_but_first _ _ c.args.journal.now (c.args.out.now ∷ c.args.rest.now ∷ [])
    (opened_alone _ _ _ _ _ c.open_archive.ensures.apart c.prepare.ensures.stays closing.apart)

pub returns-in-Err-prepare-clause-ends : goal.returns-in-Err-prepare-clause-ends
returns-in-Err-prepare-clause-ends g c =
    let seen = g.R.Room.seen in
    let a = c.in-Ok.ensures in
    let closing = c.close_archive.ensures in
    let opened = c.open_archive.ensures.apart in
    let apart = opened_alone _ _ _ _ _ opened c.prepare.ensures.stays closing.apart in
    let o = outcome g.R.Room.seen g.R.Out.Sink.written g.R.Out.Sink.faults c.args.room.now c.close_archive.new.room c.args.console.now c.tell-in-Err-prepare.new.console c.tell-in-Err-prepare.result in
    attaches_unread _ _ _ _ _ o c.in-Ok.archive.core.history
    (was_opened _ _ _ _ _ o (seen c.prepare.new.room) (g.R.Log.Disk.seen c.in-Ok.archive.journal.disk) _ (λ tells. c.prepare.ensures.stays.tells ∙ opened.tells ∙ tells)
    closing.log a.history a.within a.log.kept)
    c.in-Err-prepare.fault c.in-Err-prepare.ensures.kind c.tell-in-Err-prepare.ensures.end c.tell-in-Err-prepare.ensures.told apart
    (λ input.
    let up = c.in-Err-prepare.ensures.cause input in
    let earlier = opened.ins c.args.library.now.file in
    let later = closing.apart.ins c.args.library.now.file in
    omega (arith, earlier, up, later))

-- the names that are used, where each is used
pub prepare-requires-clause-free : goal.prepare-requires-clause-free
prepare-requires-clause-free g c κs within =
    c.open_archive.ensures.apart.open_names c.args.library.now.file (c.requires.file.0, tt) ∙ c.requires.closed c.args.library.now.file

-- the outputs were written, or could not be
pub returns-clause-closed : goal.returns-clause-closed
returns-clause-closed g c =
    let w = c.write_both-written.ensures in
    let closing = c.close_archive-2.ensures in
    let opened = c.open_archive.ensures.apart in
    let stays = c.prepare.ensures.stays in
    let names = c.requires.names in
    closed_but _ _ (c.args.journal.now ∷ c.args.out.now ∷ c.args.rest.now ∷ []) (all_apart _ _ _ _ _ _ _ _ opened stays w.apart closing.apart) (
      closing.closed,
      (
        closed_behind _ _ _ _ _ _ _ _ opened stays w.apart closing.apart c.args.out.now names.1.0 w.closed,
        (closed_behind _ _ _ _ _ _ _ _ opened stays w.apart closing.apart c.args.rest.now names.1.1.0 w.rest_closed, tt),
      ),
    ) c.requires.closed

pub returns-clause-apart : goal.returns-clause-apart
returns-clause-apart g c =
    all_apart _ _ _ _ _ c.args.journal.now c.args.out.now c.args.rest.now c.open_archive.ensures.apart c.prepare.ensures.stays c.write_both-written.ensures.apart
    c.close_archive-2.ensures.apart

pub returns-clause-ends : goal.returns-clause-ends
returns-clause-ends g c =
    let seen = g.R.Room.seen in
    let journal = c.args.journal.now in
    let out = c.args.out.now in
    let rest = c.args.rest.now in
    let library = c.args.library.now in
    let a = c.in-Ok.ensures in
    let w = c.write_both-written.ensures in
    let e = c.end_of_outputs.ensures in
    let closing = c.close_archive-2.ensures in
    let opened = c.open_archive.ensures.apart in
    let stays = c.prepare.ensures.stays in
    let names = c.requires.names in
    let core = c.core-core.result.now in
    let written = c.write_both-written.result in
    let o = outcome g.R.Room.seen g.R.Out.Sink.written g.R.Out.Sink.faults c.args.room.now c.close_archive-2.new.room c.args.console.now c.end_of_outputs.new.console c.end_of_outputs.result in
    let log = log_bytes (seen c.args.room.now) journal in
    let was = was_opened journal out rest library (option_copied c.args.code) o (seen c.write_both-written.new.room)
    (g.R.Log.Disk.seen c.in-Ok.archive.journal.disk) core.history (λ tells. w.apart.tells ∙ stays.tells ∙ opened.tells ∙ tells) closing.log
    (λ tells. subst (λ (k : Catalogued). HasHistory k.history log) (sym c.core-core.ensures.value) (a.history tells))
    (subst (λ (k : Catalogued). IsWithin (journal_limits (seen c.args.room.now)) k.history) (sym c.core-core.ensures.value) a.within) a.log.kept in
    let ready = read_there (λ bytes. IsReady library bytes (state_of core.history) c.in-Ok-prepare.ready) _ _ journal library.file c.requires.file.0 opened
    c.in-Ok-prepare.ensures.ready in
    attaches_ended journal out rest library (option_copied c.args.code) o core.history was c.in-Ok-prepare.ready ready written names.1.1.0 names.2.1.0
    (on_ok_weaker written (all_written _ _ _ _ _ journal out rest opened stays w.apart closing.apart names.1.0 names.1.1.0 _ _) w.written)
    (IfErr-weaker written _ _ (λ why stopped which is.
    all_stopped _ _ _ _ _ journal out rest opened stays w.apart closing.apart names.1.0 names.1.1.0 _ _ which (stopped which is)) w.stopped)
    (IfErr-weaker written _ _ (λ why unbegun is.
    opened_alone _ _ _ _ journal opened (same_but_then _ _ _ [] stays (unbegun is)) closing.apart) w.memory)
    (subst (λ text. OnOk written (IsResultTold o.told o.now o.faults o.faults_now text c.in-Ok-prepare.ready.refused o.end)) c.as_str.ensures.value e.whole)
    e.unwritten e.silent e.memory e.told
