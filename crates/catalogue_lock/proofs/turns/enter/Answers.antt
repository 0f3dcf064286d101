use Rattle.std.proofs.Common.{rules, Some}
use Rattle.catalogue_lock.proofs.Turning.{draws, holds_slot}
use Rattle.catalogue_lock.proofs.turns.enter.Goals as goal

pub fetch_add-ticket-requires : goal.fetch_add-ticket-requires
fetch_add-ticket-requires g c =
    let free = c.requires.free in
    (search rules, search rules, draws _ _ _ _ _ _ free.running free.idle free.single c.requires.room)

pub exchange-held-requires : goal.exchange-held-requires
exchange-held-requires g c =
    let turn = c.wait_for.ensures.turn in
    (search rules, (Some turn.object, holds_slot _ _ turn.hands))
