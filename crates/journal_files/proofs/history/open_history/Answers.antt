use Rattle.std.proofs.Common.{subst}
use Rattle.journal_files.specs.Journals.{IsHistoryIn, IsHistoryOn}
use Rattle.journal_files.specs.Taking.{IsHandedOn}
use Rattle.journal_files.proofs.Journals.{open_log, refused_by_room}
use Rattle.journal_files.proofs.Turns.{is_also}
use Rattle.journal_files.proofs.history.open_history.Goals as goal

pub returns-in-Ok-open-clause-log : goal.returns-in-Ok-open-clause-log
returns-in-Ok-open-clause-log g c =
    let was = c.in-Ok.ensures in
    let is = c.in-Ok-open.ensures in
    open_log _ _ _ _ _ _ was.opened was.bytes was.beginning is.version is.opened

pub returns-in-Ok-open-clause-taken : goal.returns-in-Ok-open-clause-taken
returns-in-Ok-open-clause-taken g c =
    let has = g.T.EntryTaker.has c.args.taker.now c.open.new.taker in
    let room = g.R.Room.seen c.args.room.now in
    let is_history = IsHistoryIn room c.args.name.now in
    subst (IsHandedOn has is_history) c.limits_of-limits.ensures
    (is_also has (IsHistoryOn (g.R.Log.Disk.seen c.in-Ok.log)) is_history c.limits_of-limits.result
    (λ entries has told. has _ (c.in-Ok.ensures.bytes told)) c.in-Ok-open.ensures.taken)

pub returns-in-Err-clause-refused : goal.returns-in-Err-clause-refused
returns-in-Err-clause-refused g c =
    let was = c.in-Ok.ensures in
    c.close_refused.ensures.keeps c.args.room.now c.in-Ok.log
    (record { apart = was.apart; bytes = was.bytes; beginning = was.beginning; fresh = was.fresh })
    (refused_by_room _ (g.R.Room.seen c.args.room.now) _ _ _ c.limits_of-limits.ensures c.in-Err.ensures.refused)
