use Rattle.std.proofs.Common.{◌≡◌, ◌∙◌, List, ℕ, Some, sym, ap, subst}
use Rattle.marc_types.specs.declared.entry.Limits.{Limits}
use Rattle.marc_types.specs.Limits.{limits_of}
use Rattle.outside.proofs.Rooms.{same_but_none, same_but_then}
use Rattle.plain_commands.specs.Passing.{IsReady}
use Rattle.outside.proofs.Closings.{closed_one}
use Rattle.plain_commands.proofs.Passes.{passes_delivered}
use Rattle.plain_commands.proofs.There.{there_of}
use Rattle.plain_commands.proofs.giving_back.give_back.Goals as goal

pub returns-in-Ok-prepare_bytes-clause-closed : goal.returns-in-Ok-prepare_bytes-clause-closed
returns-in-Ok-prepare_bytes-clause-closed g c =
    closed_one _ _ _ c.deliver_pieces-end.ensures.apart c.deliver_pieces-end.ensures.closed
    (λ name. c.read_file.ensures.stays.open_names name tt ∙ c.requires.closed name)

pub returns-in-Ok-prepare_bytes-clause-apart : goal.returns-in-Ok-prepare_bytes-clause-apart
returns-in-Ok-prepare_bytes-clause-apart g c =
    same_but_then _ _ _ _ (same_but_none _ _ _ c.read_file.ensures.stays) c.deliver_pieces-end.ensures.apart

pub returns-in-Ok-prepare_bytes-clause-ends : goal.returns-in-Ok-prepare_bytes-clause-ends
returns-in-Ok-prepare_bytes-clause-ends g c =
    let old = g.R.Room.seen c.args.room.now in
    let stays = c.read_file.ensures.stays in
    let d = c.deliver_pieces-end.ensures in
    let judged = c.as_slice.ensures.value in
    let given = c.as_slice-in-Ok-prepare_bytes.ensures.value in
    let is_ready = subst (λ (limits : Limits). IsReady limits c.args.library.now c.as_slice.result.now c.in-Ok-prepare_bytes.ready) (c.of-limits.ensures ∙ ap limits_of c.is_large.ensures)
    c.in-Ok-prepare_bytes.ensures.ready in
    let ready = subst (λ (bytes : List ℕ). IsReady (limits_of old.is_large) c.args.library.now bytes c.in-Ok-prepare_bytes.ready) (judged ∙ sym given) is_ready in
    passes_delivered _ _ _ _ (g.R.Room.seen c.read_file.new.room) stays d.fault d.unwritten
    (λ tells.
    let there = subst (λ n. old.file n ≡ Some c.in-Ok.bytes.items) c.as_str.ensures (c.in-Ok.ensures.bytes tells) in
    there_of _ _ _ (there ∙ ap (λ (bytes : List ℕ). Some bytes) (sym given)) (d.delivered _ _ (stays.tells ∙ tells) ready))
