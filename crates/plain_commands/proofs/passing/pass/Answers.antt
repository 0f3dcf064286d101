use Rattle.std.proofs.Common.{◌∙◌, ap, subst}
use Rattle.marc_types.specs.declared.entry.Limits.{Limits}
use Rattle.marc_types.specs.Limits.{limits_of}
use Rattle.outside.proofs.Rooms.{same_but_none, same_but_then}
use Rattle.outside.proofs.Closings.{closed_one}
use Rattle.plain_commands.specs.Loading.{IsFullIn}
use Rattle.plain_commands.specs.Passing.{IsReadyIn}
use Rattle.plain_commands.proofs.Passes.{passes_told, passes_delivered}
use Rattle.plain_commands.proofs.There.{there_more}
use Rattle.plain_commands.proofs.passing.pass.Goals as goal

pub returns-in-Ok-clause-closed : goal.returns-in-Ok-clause-closed
returns-in-Ok-clause-closed g c =
    closed_one _ _ _ c.deliver_export-end.ensures.apart c.deliver_export-end.ensures.closed
    (λ name. c.prepare.ensures.stays.open_names name tt ∙ c.requires.closed name)

pub returns-in-Ok-clause-apart : goal.returns-in-Ok-clause-apart
returns-in-Ok-clause-apart g c = same_but_then _ _ _ _ (same_but_none _ _ _ c.prepare.ensures.stays) c.deliver_export-end.ensures.apart

pub returns-in-Ok-clause-ends : goal.returns-in-Ok-clause-ends
returns-in-Ok-clause-ends g c =
    let mid = g.R.Room.seen c.prepare.new.room in
    let d = c.deliver_export-end.ensures in
    let stays = c.prepare.ensures.stays in
    let ready = subst (λ (limits : Limits). IsReadyIn limits (g.R.Room.seen c.args.room.now) c.args.library.now c.in-Ok.ready)
    (c.of-limits.ensures ∙ ap limits_of c.is_large.ensures) c.in-Ok.ensures.ready in
    passes_delivered _ _ _ _ mid stays d.fault d.unwritten
    (λ tells. there_more _ (λ bytes ready_is. d.delivered _ _ bytes (stays.tells ∙ tells) ready_is) (ready tells))

pub returns-in-Err-clause-ends : goal.returns-in-Err-clause-ends
returns-in-Err-clause-ends g c =
    let full = subst (λ (limits : Limits). IsFullIn limits (g.R.Room.seen c.args.room.now) c.args.library.now.file c.args.library.now.code c.in-Err.fault)
    (c.of-limits.ensures ∙ ap limits_of c.is_large.ensures) c.in-Err.ensures.full in
    passes_told _ _ _ _ c.in-Err.fault c.tell.ensures.end c.tell.ensures.told c.in-Err.ensures.kind c.prepare.ensures.stays c.in-Err.ensures.cause full
