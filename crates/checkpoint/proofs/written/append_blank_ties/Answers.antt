use Rattle.std.proofs.Common.{arith}
use Rattle.checkpoint.proofs.Kept.{blank_first, blank_next, blank_done}
use Rattle.checkpoint.proofs.written.append_blank_ties.Goals as goal

pub loop-done-init : goal.loop-done-init
loop-done-init c = blank_first c.args.count c.args.out.now.items

pub loop-done-preserved : goal.loop-done-preserved
loop-done-preserved c =
    blank_next c.args.count c.loop-done.done c.args.out.now.items _ _ c.loop-done-test.true c.loop-done.invariant c.in_ok-push.ensures.items

pub returns : goal.returns
returns c = blank_done c.args.count c.loop-done.done c.args.out.now.items _ (omega (arith, c.loop-done-test.false)) c.loop-done.invariant
