use Rattle.std.proofs.Common.{arith}
use Rattle.heading_worklist.proofs.Counting.{next_links}
use Rattle.heading_worklist.proofs.links.count_rows.Goals as goal

pub loop-key-preserved : goal.loop-key-preserved
loop-key-preserved c = λ k.
    let so_far = c.loop-key.invariant k in
    let next = next_links k c.loop-key._key-iterator c.next.new.self c.in-Some._key.now c.in-Some.kept.now c.in-Some.ensures.steps in
    let here = c.in_ok-count_record.ensures k in
    omega (arith, so_far, next, here)
