use Rattle.std.proofs.Common.{arith}
use Rattle.point_verification.proofs.Fronts.{own_front}
use Rattle.point_verification.proofs.own_point.is_point_of.Goals as goal

pub returns : goal.returns
returns g c =
    own_front c.args.entries.now c.args.point.now c.in_ok-made.made.engine.state c.as_slice.result.now c.in_ok-own.own c.as_slice.ensures (c.in_ok-made.ensures.whole tt)
    (omega (arith, c.if-point-entries.false)) c.in_ok-own.ensures
