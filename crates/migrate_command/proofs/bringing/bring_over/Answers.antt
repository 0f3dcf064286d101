use Rattle.std.proofs.Common.{◌∙◌, [], ◌∷◌, Err, sym, ap}
use Rattle.outside.proofs.Rooms.{same_but_itself, same_but_first}
use Rattle.commit_journal.specs.Versions.{number_of}
use Rattle.outside.proofs.Closings.{closed_opened, apart_over, closed_over}
use Rattle.migrate_command.proofs.Over.{within_still, over_unopened, over_either}
use Rattle.migrate_command.proofs.bringing.bring_over.Goals as goal

-- the old log was not opened
pub returns-in-Err-clause-closed : goal.returns-in-Err-clause-closed
returns-in-Err-clause-closed g c =
    let room = g.R.Room.seen in
    let from = c.args.from.now in
    let into = c.args.into.now in
    let apart = c.open_history.ensures.apart in
    let opened = room c.open_history.new.room in
    closed_opened (room c.args.room.now) opened opened from into apart (same_but_itself opened (from ∷ into ∷ [])) c.in-Err.ensures.refused.closed
    (apart.open_names into ((λ same. c.requires.differ (sym same)), tt) ∙ c.requires.closed into) c.requires.closed

pub returns-in-Err-clause-apart : goal.returns-in-Err-clause-apart
returns-in-Err-clause-apart g c = same_but_first _ _ c.args.from.now (c.args.into.now ∷ []) c.open_history.ensures.apart

pub returns-in-Err-clause-over : goal.returns-in-Err-clause-over
returns-in-Err-clause-over g c =
    let because = c.in-Err.ensures in
    over_unopened c.args.from.now c.args.into.now (λ same. c.requires.differ (sym same)) (g.R.Room.seen c.args.room.now) (g.R.Room.seen c.open_history.new.room)
    c.open_history.ensures.apart c.in-Err.fault (Err c.fault_of_opening.result) (ap (λ f. Err f) c.fault_of_opening.ensures)
    because.current because.refused.so because.refused.keeps because.refused.cause

-- it was, and its history is within the limits as they are still
pub bring_old-brought-requires-clause-within : goal.bring_old-brought-requires-clause-within
bring_old-brought-requires-clause-within g c _ _ =
    let taken = c.in-Ok.ensures.taken in
    within_still (g.R.Room.seen c.args.room.now) (g.R.Room.seen c.open_history.new.room) (c.args.from.now ∷ []) taken.entries c.into_vec.result.items
    c.open_history.ensures.apart (c.into_vec.ensures ∙ taken.taken) taken.within

-- and was brought over or not
pub returns-clause-closed : goal.returns-clause-closed
returns-clause-closed g c =
    closed_over _ _ _ _ _ _ c.open_history.ensures.apart c.bring_old-brought.ensures.apart c.close_history.ensures.apart
    (λ same. c.requires.differ (sym same)) c.close_history.ensures.closed c.bring_old-brought.ensures.closed c.requires.closed

pub returns-clause-apart : goal.returns-clause-apart
returns-clause-apart g c =
    apart_over _ _ _ _ _ _ c.open_history.ensures.apart c.bring_old-brought.ensures.apart c.close_history.ensures.apart

pub returns-clause-over : goal.returns-clause-over
returns-clause-over g c =
    let room = g.R.Room.seen in
    let opened = c.in-Ok.ensures in
    let taken = opened.taken in
    let brought = c.bring_old-brought.ensures in
    let closing = c.close_history.ensures in
    over_either c.args.from.now c.args.into.now (λ same. c.requires.differ (sym same)) (room c.args.room.now) (room c.open_history.new.room)
    (room c.bring_old-brought.new.room) (room c.close_history.new.room) (g.R.Log.Disk.seen c.in-Ok.log.journal.disk) c.into_vec.result.items taken.entries c.number-version.result _
    c.open_history.ensures.apart brought.apart closing.apart (c.into_vec.ensures ∙ taken.taken) taken.history taken.within (c.number-version.ensures.number ∙ ap number_of c.version.ensures) opened.log.version_is
    opened.log.kept closing.log brought.brings c.bring_old-brought.result brought.counted brought.brought brought.fault brought.kept brought.settled
