use Rattle.std.proofs.Common.{◌∙◌, [], ◌∷◌, string_bytes, Err, sym, ap, subst}
use Rattle.std.specs.Prelude.{IsSomeAnd}
use Rattle.outside.proofs.Rooms.{same_but_none, same_but_then}
use Rattle.outside.proofs.Closings.{closed_but}
use Rattle.entry_record.specs.History.{IsWithin}
use Rattle.journal_files.specs.Journals.{journal_limits}
use Rattle.journal_files.proofs.Journals.{same_limits}
use Rattle.salvage_command.specs.Finding.{IsFoundSound, IsUnfound}
use Rattle.salvage_command.proofs.Endings.{salvages_unfound, salvages_brought, salvages_unbrought}
use Rattle.salvage_command.proofs.command.salvage_journal.Goals as goal

-- nothing was found that can be brought
pub returns-in-Err-clause-closed : goal.returns-in-Err-clause-closed
returns-in-Err-clause-closed g c name = c.findings_of.ensures.stays.open_names name tt ∙ c.requires.closed name

pub returns-in-Err-clause-apart : goal.returns-in-Err-clause-apart
returns-in-Err-clause-apart g c = same_but_none _ _ (c.args.into.now ∷ []) c.findings_of.ensures.stays

pub returns-in-Err-clause-ends : goal.returns-in-Err-clause-ends
returns-in-Err-clause-ends g c =
    let why = c.in-Err.fault in
    let un = c.in-Err.ensures in
    let file = (g.R.Room.seen c.args.room.now).file c.args.journal.now in
    salvages_unfound c.args.journal.now c.args.into.now _ why c.findings_of.ensures.stays c.tell.ensures.end c.tell.ensures.told un.no_usage un.no_device
    (λ is. c.findings_of.ensures.input (c.in-Err.is ∙ ap Err is))
    (λ input memory tells.
    subst (λ limits. IsSomeAnd file (λ log. IsUnfound limits log why)) c.limits_of-limits.ensures (un.unfound input memory tells))

-- it is within the limits, which reading it didn't change
pub bring_history-requires-clause-within : goal.bring_history-requires-clause-within
bring_history-requires-clause-within g c κs within =
    subst (λ limits. IsWithin limits c.in-Ok.found.entries.items) (c.limits_of-limits.ensures ∙ sym (same_limits _ _ [] c.findings_of.ensures.stays)) c.in-Ok.ensures.within

-- it was brought into the new journal
pub returns-in-Ok-bring_history-clause-closed : goal.returns-in-Ok-bring_history-clause-closed
returns-in-Ok-bring_history-clause-closed g c =
    let apart = same_but_then _ _ _ (c.args.into.now ∷ []) (same_but_none _ _ (c.args.into.now ∷ []) c.findings_of.ensures.stays) c.bring_history.ensures.apart in
    closed_but _ _ (c.args.into.now ∷ []) apart (c.bring_history.ensures.closed, tt) c.requires.closed

pub returns-in-Ok-bring_history-clause-apart : goal.returns-in-Ok-bring_history-clause-apart
returns-in-Ok-bring_history-clause-apart g c =
    same_but_then _ _ _ (c.args.into.now ∷ []) (same_but_none _ _ (c.args.into.now ∷ []) c.findings_of.ensures.stays) c.bring_history.ensures.apart

pub returns-in-Ok-bring_history-clause-ends : goal.returns-in-Ok-bring_history-clause-ends
returns-in-Ok-bring_history-clause-ends g c =
    let entries = c.in-Ok.found.entries.items in
    let text = c.as_str.result.now in
    let file = (g.R.Room.seen c.args.room.now).file c.args.journal.now in
    salvages_brought c.args.journal.now c.args.into.now _ (λ same. c.requires.differ (sym same)) (g.R.Room.seen c.findings_of.new.room) text entries
    c.findings_of.ensures.stays c.bring_history.ensures.apart
    (λ tells.
    subst (λ t. IsSomeAnd file (λ log. IsFoundSound (journal_limits (g.R.Room.seen c.args.room.now)) log entries t)) (sym c.as_str.ensures.value)
    (subst (λ limits. IsSomeAnd file (λ log. IsFoundSound limits log entries (string_bytes c.in-Ok.found.text))) c.limits_of-limits.ensures (c.in-Ok.ensures.found tells)))
    c.bring_history.ensures.brings c.in-Ok-bring_history.ensures.taken c.tell_result.ensures

-- it wasn't
pub returns-clause-closed : goal.returns-clause-closed
returns-clause-closed g c =
    let apart = same_but_then _ _ _ (c.args.into.now ∷ []) (same_but_none _ _ (c.args.into.now ∷ []) c.findings_of.ensures.stays) c.bring_history.ensures.apart in
    closed_but _ _ (c.args.into.now ∷ []) apart (c.bring_history.ensures.closed, tt) c.requires.closed

pub returns-clause-apart : goal.returns-clause-apart
returns-clause-apart g c =
    same_but_then _ _ _ (c.args.into.now ∷ []) (same_but_none _ _ (c.args.into.now ∷ []) c.findings_of.ensures.stays) c.bring_history.ensures.apart

pub returns-clause-ends : goal.returns-clause-ends
returns-clause-ends g c =
    let why = c.in-Err-bring_history.ensures in
    let entries = c.in-Ok.found.entries.items in
    let text = string_bytes c.in-Ok.found.text in
    let file = (g.R.Room.seen c.args.room.now).file c.args.journal.now in
    salvages_unbrought c.args.journal.now c.args.into.now _ (λ same. c.requires.differ (sym same)) (g.R.Room.seen c.findings_of.new.room) text entries
    c.findings_of.ensures.stays c.bring_history.ensures.apart
    (λ tells. subst (λ limits. IsSomeAnd file (λ log. IsFoundSound limits log entries text)) c.limits_of-limits.ensures (c.in-Ok.ensures.found tells))
    c.bring_history.ensures.brings c.in-Err-bring_history.fault c.tell-in-Err-bring_history.ensures.end c.tell-in-Err-bring_history.ensures.told why.fault why.kept why.settled
