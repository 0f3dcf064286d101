use Rattle.std.proofs.Common.{◌∙◌, [], ◌∷◌, OnOk, sym, subst}
use Rattle.std.specs.Prelude.{IsSomeAnd}
use Rattle.std.specs.Option.{option_copied}
use Rattle.std.proofs.lemmas.Result.{IfErr-weaker, on_ok_weaker}
use Rattle.outside.proofs.Counts.{rose_since}
use Rattle.outside.proofs.Rooms.{same_but_then}
use Rattle.console_lines.specs.Ends.{outcome, IsResultTold}
use Rattle.catalogue_core.specs.Catalogues.{Catalogued}
use Rattle.catalogue_rules.specs.Settle.{state_of}
use Rattle.durable_catalogue.specs.Logs.{HasHistory}
use Rattle.entry_record.specs.History.{IsWithin}
use Rattle.outside.proofs.Closings.{closed_but}
use Rattle.holdings_command.specs.Ready.{IsReady}
use Rattle.reading_commands.proofs.Attached.{read_apart, stopped_since, unheld_ended, unheld_unready, unheld_untaken, written_since}
use Rattle.reading_commands.proofs.unheld.attach_unheld.Goals as goal

-- the journal's bytes are not taken
pub returns-in-Err-catalogue_of-clause-ends : goal.returns-in-Err-catalogue_of-clause-ends
returns-in-Err-catalogue_of-clause-ends g c =
    let because = c.in-Err-catalogue_of.ensures in
    let t = c.tell-in-Err-catalogue_of.ensures in
    unheld_untaken _ _ _ _ _ _ c.limits_of-limits.result c.in-Ok.bytes.items c.in-Err-catalogue_of.fault _ c.fault_of_look.ensures t.end t.told because.current
    c.read_file.ensures.stays c.in-Ok.ensures.bytes because.unopened c.limits_of-limits.ensures

-- the file was not read, or memory ran out over it
pub returns-in-Err-prepare-clause-ends : goal.returns-in-Err-prepare-clause-ends
returns-in-Err-prepare-clause-ends g c =
    let o = outcome g.R.Room.seen g.R.Out.Sink.written g.R.Out.Sink.faults c.args.room.now c.prepare.new.room c.args.console.now c.tell-in-Err-prepare.new.console c.tell-in-Err-prepare.result in
    let first = c.read_file.ensures.stays in
    unheld_unready _ _ _ _ _ o c.in-Err-prepare.fault c.in-Err-prepare.ensures.kind c.tell-in-Err-prepare.ensures.end c.tell-in-Err-prepare.ensures.told
    (same_but_then _ _ _ [] first c.prepare.ensures.stays)
    (λ input. rose_since _ _ _ (first.ins c.args.library.now.file) (c.in-Err-prepare.ensures.cause input))

-- the outputs were written, or could not be
pub returns-clause-closed : goal.returns-clause-closed
returns-clause-closed g c =
    let w = c.write_both-written.ensures in
    closed_but _ _ (c.args.out.now ∷ c.args.rest.now ∷ []) (read_apart _ _ _ _ _ c.read_file.ensures.stays c.prepare.ensures.stays w.apart)
    (w.closed, (w.rest_closed, tt)) c.requires.closed

pub returns-clause-apart : goal.returns-clause-apart
returns-clause-apart g c = read_apart _ _ _ _ _ c.read_file.ensures.stays c.prepare.ensures.stays c.write_both-written.ensures.apart

pub returns-clause-ends : goal.returns-clause-ends
returns-clause-ends g c =
    let out = c.args.out.now in
    let rest = c.args.rest.now in
    let library = c.args.library.now in
    let bytes = c.in-Ok.bytes.items in
    let a = c.in-Ok-catalogue_of.ensures in
    let w = c.write_both-written.ensures in
    let e = c.end_of_outputs.ensures in
    let first = c.read_file.ensures.stays in
    let stays = same_but_then _ _ _ [] first c.prepare.ensures.stays in
    let core = c.core-core.result.now in
    let ready = c.in-Ok-prepare.ready in
    let written = c.write_both-written.result in
    let o = outcome g.R.Room.seen g.R.Out.Sink.written g.R.Out.Sink.faults c.args.room.now c.write_both-written.new.room c.args.console.now c.end_of_outputs.new.console c.end_of_outputs.result in
    unheld_ended c.args.journal.now out rest library (option_copied c.args.code) o bytes core.history c.in-Ok.ensures.bytes
    (subst (λ (k : Catalogued). HasHistory k.history bytes) (sym c.core-core.ensures.value) a.history)
    (subst (λ l. IsWithin l core.history) c.limits_of-limits.ensures
    (subst (λ (k : Catalogued). IsWithin c.limits_of-limits.result k.history) (sym c.core-core.ensures.value) a.within)) ready
    (λ tells. subst (λ file. IsSomeAnd file (λ bytes. IsReady library bytes (state_of core.history) ready)) (first.files library.file tt)
    (c.in-Ok-prepare.ensures.ready (first.tells ∙ tells)))
    written c.requires.names.1.0 (on_ok_weaker written (written_since _ _ _ out rest _ _ stays) w.written)
    (IfErr-weaker written _ _ (λ why stopped which is. stopped_since _ _ _ out rest _ _ stays which (stopped which is)) w.stopped)
    (IfErr-weaker written _ _ (λ why unbegun is. same_but_then _ _ _ [] stays (unbegun is)) w.memory)
    (subst (λ text. OnOk written (IsResultTold o.told o.now o.faults o.faults_now text ready.refused o.end)) c.as_str.ensures.value e.whole)
    e.unwritten e.silent e.memory e.told
