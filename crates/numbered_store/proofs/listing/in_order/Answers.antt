use Rattle.std.proofs.Common.{◌-◌, ap, arith, length, refl}
use Rattle.numbered_store.proofs.Listed.{put_one}
use Rattle.numbered_store.proofs.listing.in_order.Goals as goal

pub loop-done-preserved : goal.loop-done-preserved
loop-done-preserved c =
    put_one c.args.keys.now c.args.slots.now.items (c.len-known.result - 1 - c.loop-done.done) c.loop-done.done (length c.args.keys.now - c.loop-done.done) _ _ c.requires
    (omega (arith, c.loop-done-test.true, c.len-known.ensures.length)) (ap (λ l. l - 1 - c.loop-done.done) c.len-known.ensures.length) refl
    c.loop-done.invariant c.in_ok-put_in.ensures
