use Rattle.std.proofs.Common.{subst}
use Rattle.entry_record.specs.History.{IsWithin}
use Rattle.journal_files.proofs.Journals.{open_log, refused_by_room}
use Rattle.worklist_command.proofs.opening.open_catalogued.Goals as goal

pub returns-in-Ok-open-clause-log : goal.returns-in-Ok-open-clause-log
returns-in-Ok-open-clause-log g c =
    let was = c.in-Ok.ensures in
    let is = c.in-Ok-open.ensures in
    open_log _ _ _ _ _ _ was.opened was.bytes was.beginning is.version is.opened

pub returns-in-Ok-open-clause-within : goal.returns-in-Ok-open-clause-within
returns-in-Ok-open-clause-within g c =
    subst (λ limits. IsWithin limits c.in-Ok-open.catalogued.core.history) c.limits_of-limits.ensures c.in-Ok-open.ensures.within

pub returns-in-Err-clause-refused : goal.returns-in-Err-clause-refused
returns-in-Err-clause-refused g c =
    let was = c.in-Ok.ensures in
    c.close_refused.ensures.keeps c.args.room.now c.in-Ok.log
    (record { apart = was.apart; bytes = was.bytes; beginning = was.beginning; fresh = was.fresh })
    (refused_by_room _ (g.R.Room.seen c.args.room.now) _ _ _ c.limits_of-limits.ensures c.in-Err.ensures.refused)
