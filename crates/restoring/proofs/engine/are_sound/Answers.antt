use Rattle.std.proofs.Common.{arith}
use Rattle.restoring.proofs.Sounding.{all_sound, one_more_sound, one_unsound}
use Rattle.restoring.proofs.engine.are_sound.Goals as goal

pub loop-row-init : goal.loop-row-init
loop-row-init c = λ k d low. absurd (omega (arith, low))

pub returns-then-not-branch : goal.returns-then-not-branch
returns-then-not-branch c =
    one_unsound c.args.rows.now c.loop-row.row-index c.row-item.result c.loop-row-test.true c.row-item.is c.in_ok-is_sound.field-0 c.if-not-branch.true c.in_ok-is_sound.ensures

pub loop-row-preserved : goal.loop-row-preserved
loop-row-preserved c =
    one_more_sound c.args.rows.now c.loop-row.row-index c.row-item.result c.loop-row-test.true c.row-item.is c.loop-row.invariant
    (c.in_ok-is_sound.ensures.0 c.if-not-branch.false)

pub returns : goal.returns
returns c = all_sound c.args.rows.now c.loop-row.row-index (omega (arith, c.loop-row-test.false)) c.loop-row.invariant
