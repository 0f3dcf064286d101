use Rattle.std.proofs.Common.{◌≡◌, ◌∙◌, true, [], ◌∷◌, refl, sym, ap, subst}
use Rattle.outside.proofs.Rooms.{same_but_itself, same_but_first}
use Rattle.console_lines.specs.declared.end.End.TheVariants.{Told}
use Rattle.console_lines.specs.Faults.{IsFaultTold, fault_line}
use Rattle.outside.proofs.Closings.{closed_opened, apart_over, closed_over}
use Rattle.checkpoint_commands.specs.Rooms.{PutsBehind, IsPutBehind}
use Rattle.checkpoint_commands.proofs.Endings.{checkpoints_unopened, checkpoints_done, checkpoints_unwritten, checkpoints_refused, counted_history, alone_err}
use Rattle.checkpoint_commands.proofs.checkpointing.put_checkpoint.Goals as goal

-- the journal was not opened
pub returns-in-Err-clause-closed : goal.returns-in-Err-clause-closed
returns-in-Err-clause-closed g c =
    let room = g.R.Room.seen in
    let journal = c.args.journal.now in
    let point = c.args.point.now in
    let apart = c.open_archive.ensures.apart in
    let opened = room c.open_archive.new.room in
    closed_opened (room c.args.room.now) opened opened journal point apart (same_but_itself opened (journal ∷ point ∷ [])) c.in-Err.ensures.refused.closed
    (apart.open_names point ((λ same. c.requires.differ (sym same)), tt) ∙ c.requires.closed point) c.requires.closed

pub returns-in-Err-clause-apart : goal.returns-in-Err-clause-apart
returns-in-Err-clause-apart g c = same_but_first _ _ c.args.journal.now (c.args.point.now ∷ []) c.open_archive.ensures.apart

pub returns-in-Err-clause-ends : goal.returns-in-Err-clause-ends
returns-in-Err-clause-ends g c =
    let because = c.in-Err.ensures in
    let written = g.R.Out.Sink.written in
    let faults = g.R.Out.Sink.faults in
    let console = c.args.console.now in
    let now = c.tell.new.console in
    checkpoints_unopened c.args.journal.now c.args.point.now _ c.in-Err.fault (c.tell.ensures.end ∙ ap Told c.fault_of_opening.ensures)
    (subst (λ f. IsFaultTold (written console) (written now) (faults console) (faults now) (fault_line f)) c.fault_of_opening.ensures c.tell.ensures.told)
    c.requires.differ because.current c.open_archive.ensures.apart because.refused

-- the checkpoint is there
pub returns-in-Ok-write_checkpoint-clause-closed : goal.returns-in-Ok-write_checkpoint-clause-closed
returns-in-Ok-write_checkpoint-clause-closed g c =
    closed_over _ _ _ _ _ _ c.open_archive.ensures.apart c.add_to_file-added.ensures.apart c.close_archive.ensures.apart
    (λ same. c.requires.differ (sym same)) c.close_archive.ensures.closed c.add_to_file-added.ensures.closed c.requires.closed

pub returns-in-Ok-write_checkpoint-clause-apart : goal.returns-in-Ok-write_checkpoint-clause-apart
returns-in-Ok-write_checkpoint-clause-apart g c =
    apart_over _ _ _ _ _ _ c.open_archive.ensures.apart c.add_to_file-added.ensures.apart c.close_archive.ensures.apart

pub returns-in-Ok-write_checkpoint-clause-ends : goal.returns-in-Ok-write_checkpoint-clause-ends
returns-in-Ok-write_checkpoint-clause-ends g c =
    let room = g.R.Room.seen in
    let a = c.in-Ok.ensures in
    let archive = c.in-Ok.archive in
    let added = c.add_to_file-added in
    let opened = room c.open_archive.new.room in
    let mid = room added.new.room in
    let point = c.args.point.now in
    let closing = c.close_archive.ensures in
    checkpoints_done c.args.journal.now point c.requires.differ _ opened mid (g.R.Log.Disk.seen archive.journal.disk) archive.core.history
    c.open_archive.ensures.apart closing.apart added.ensures.apart.tells a.history a.within a.log.kept closing.log
    (subst (λ core. opened.tells ≡ true → PutsBehind core.history opened mid point) c.core.ensures.value added.ensures.puts)
    c.history_len-count.result
    (counted_history c.core-2.result.now archive.core.history c.history_len-count.result c.history_len-count.ensures.value c.core-2.ensures.unstaged
    (ap (λ core. core.history) c.core-2.ensures.value))
    (subst (λ core. opened.tells ≡ true → IsPutBehind core.history opened mid point) c.core.ensures.value c.in-Ok-added.ensures.put)
    refl c.in-Ok-write_checkpoint.ensures.line

pub returns-in-Err-write_checkpoint-clause-closed : goal.returns-in-Err-write_checkpoint-clause-closed
returns-in-Err-write_checkpoint-clause-closed g c =
    closed_over _ _ _ _ _ _ c.open_archive.ensures.apart c.add_to_file-added.ensures.apart c.close_archive.ensures.apart
    (λ same. c.requires.differ (sym same)) c.close_archive.ensures.closed c.add_to_file-added.ensures.closed c.requires.closed

pub returns-in-Err-write_checkpoint-clause-apart : goal.returns-in-Err-write_checkpoint-clause-apart
returns-in-Err-write_checkpoint-clause-apart g c =
    apart_over _ _ _ _ _ _ c.open_archive.ensures.apart c.add_to_file-added.ensures.apart c.close_archive.ensures.apart

pub returns-in-Err-write_checkpoint-clause-ends : goal.returns-in-Err-write_checkpoint-clause-ends
returns-in-Err-write_checkpoint-clause-ends g c =
    let room = g.R.Room.seen in
    let a = c.in-Ok.ensures in
    let archive = c.in-Ok.archive in
    let added = c.add_to_file-added in
    let opened = room c.open_archive.new.room in
    let mid = room added.new.room in
    let point = c.args.point.now in
    let closing = c.close_archive.ensures in
    checkpoints_unwritten c.args.journal.now point c.requires.differ _ opened mid (g.R.Log.Disk.seen archive.journal.disk) archive.core.history
    c.open_archive.ensures.apart closing.apart added.ensures.apart.tells a.history a.within a.log.kept closing.log
    (subst (λ core. opened.tells ≡ true → PutsBehind core.history opened mid point) c.core.ensures.value added.ensures.puts)
    c.history_len-count.result
    (counted_history c.core-2.result.now archive.core.history c.history_len-count.result c.history_len-count.ensures.value c.core-2.ensures.unstaged
    (ap (λ core. core.history) c.core-2.ensures.value))
    (subst (λ core. opened.tells ≡ true → IsPutBehind core.history opened mid point) c.core.ensures.value c.in-Ok-added.ensures.put)
    refl c.write_checkpoint.ensures.front c.in-Err-write_checkpoint.ensures.cause.failed

-- it isn't
pub returns-in-Err-added-clause-closed : goal.returns-in-Err-added-clause-closed
returns-in-Err-added-clause-closed g c =
    closed_over _ _ _ _ _ _ c.open_archive.ensures.apart c.add_to_file-added.ensures.apart c.close_archive.ensures.apart
    (λ same. c.requires.differ (sym same)) c.close_archive.ensures.closed c.add_to_file-added.ensures.closed c.requires.closed

pub returns-in-Err-added-clause-apart : goal.returns-in-Err-added-clause-apart
returns-in-Err-added-clause-apart g c =
    apart_over _ _ _ _ _ _ c.open_archive.ensures.apart c.add_to_file-added.ensures.apart c.close_archive.ensures.apart

pub returns-in-Err-added-clause-ends : goal.returns-in-Err-added-clause-ends
returns-in-Err-added-clause-ends g c =
    let room = g.R.Room.seen in
    let written = g.R.Out.Sink.written in
    let faults = g.R.Out.Sink.faults in
    let a = c.in-Ok.ensures in
    let archive = c.in-Ok.archive in
    let added = c.add_to_file-added in
    let opened = room c.open_archive.new.room in
    let mid = room added.new.room in
    let point = c.args.point.now in
    let closing = c.close_archive.ensures in
    let tells = c.tell-in-Err-added in
    let fault = c.fault_of_opening-in-Err-added in
    checkpoints_refused c.args.journal.now point c.requires.differ _ opened mid (g.R.Log.Disk.seen archive.journal.disk) archive.core.history
    c.open_archive.ensures.apart closing.apart added.ensures.apart.tells a.history a.within a.log.kept closing.log
    (subst (λ core. opened.tells ≡ true → PutsBehind core.history opened mid point) c.core.ensures.value added.ensures.puts)
    c.in-Err-added.fault (tells.ensures.end ∙ ap Told fault.ensures)
    (subst (λ f. IsFaultTold (written c.args.console.now) (written tells.new.console) (faults c.args.console.now) (faults tells.new.console) (fault_line f)) fault.ensures tells.ensures.told)
    (apart_over _ _ _ _ _ _ c.open_archive.ensures.apart added.ensures.apart closing.apart) c.in-Err-added.ensures.refused
    (alone_err _ c.in-Err-added.fault opened mid point c.in-Err-added.is added.ensures.alone)
