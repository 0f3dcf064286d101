use Rattle.std.proofs.Common.{◌≡◌, ◌∙◌, true, OnOk, [], ◌∷◌, ap}
use Rattle.std.specs.Option.{option_copied}
use Rattle.output_files.specs.Outputs.{AreWritten, AreStopped}
use Rattle.heading_worklist.specs.Counting.{kept_in}
use Rattle.heading_worklist.specs.Counts.{counted_in_order}
use Rattle.worklist_command.proofs.Due.{both_of_history}
use Rattle.worklist_command.proofs.writing.write_both.Goals as goal

pub returns-clause-written : goal.returns-clause-written
returns-clause-written g c =
    let seen = g.R.Room.seen in
    let old = seen c.args.room.now in
    let new = seen c.write_two.new.room in
    let all = c.in-Ok-counted_in_order.ensures ∙ ap counted_in_order (c.deref.ensures.value ∙ c.in-Ok.ensures) in
    both_of_history (λ list page. OnOk c.write_two.result (old.tells ≡ true → AreWritten c.args.list.now c.args.page.now list page new))
    (kept_in (option_copied c.args.code)) c.args.core.now c.engine-engine.result.now.state c.in-Ok-counted_in_order.lines.keys c.args.brought.now
    c.in-Ok-page_bytes.shown.items c.requires.staged c.engine-engine.ensures all c.in-Ok-page_bytes.ensures c.write_two.ensures.written

pub returns-clause-stopped : goal.returns-clause-stopped
returns-clause-stopped g c which is =
    let seen = g.R.Room.seen in
    let old = seen c.args.room.now in
    let new = seen c.write_two.new.room in
    let all = c.in-Ok-counted_in_order.ensures ∙ ap counted_in_order (c.deref.ensures.value ∙ c.in-Ok.ensures) in
    both_of_history (λ list page. AreStopped (c.args.list.now ∷ []) c.args.list.now c.args.page.now list page old new which)
    (kept_in (option_copied c.args.code)) c.args.core.now c.engine-engine.result.now.state c.in-Ok-counted_in_order.lines.keys c.args.brought.now
    c.in-Ok-page_bytes.shown.items c.requires.staged c.engine-engine.ensures all c.in-Ok-page_bytes.ensures (c.write_two.ensures.stopped which is)
