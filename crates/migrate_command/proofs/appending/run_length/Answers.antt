use Rattle.std.proofs.Common.{arith}
use Rattle.migrate_command.proofs.Payloads.{frames_more}
use Rattle.migrate_command.proofs.appending.run_length.Goals as goal

pub loop-count-preserved : goal.loop-count-preserved
loop-count-preserved c =
    let loop = c.loop-count in
    let more = frames_more c.args.payloads.now loop.count c.index-payloads-count.result c.loop-count-test.true c.index-payloads-count.is in
    let so_far = loop.invariant in
    let size = c.len.ensures in
    let left = c.in-Some.ensures in
    let gate = c.if-left.false in
    omega (arith, more, so_far, size, left.0, left.1, gate)
