use Rattle.std.proofs.Common.{arith}
use Rattle.commit_stages.proofs.Counting.{next_first}
use Rattle.commit_stages.proofs.changed.first_seats.Goals as goal

pub loop-index-preserved : goal.loop-index-preserved
loop-index-preserved c =
    next_first c.args.class c.args.number c.args.noted.now c.loop-index.index c.seat_at.result c.loop-index.firsts c.add_first.new.firsts
    (omega (arith, c.loop-index-test.true, c.len-known.ensures.length)) c.seat_at.ensures c.loop-index.invariant c.in_ok-add_first.ensures
