use Rattle.linked_store.proofs.Listing.{one_taken}
use Rattle.linked_store.proofs.lists.in_turn.Goals as goal

pub loop-number-preserved : goal.loop-number-preserved
loop-number-preserved c =
    one_taken c.args.found.now c.loop-number.seats.items c.push_at.new.seats.items c.loop-number.number (rw c.len-known.ensures.length at c.loop-number-test.true) c.loop-number.invariant
    c.in_ok-push_at.ensures
