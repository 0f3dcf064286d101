use Rattle.std.proofs.Common.{length, ap, arith, ℕ}
use Rattle.journal_verification.proofs.Comings.{comes_passed}
use Rattle.journal_verification.proofs.coming.Coming.total.Goals as goal

pub loop-self-preserved : goal.loop-self-preserved
loop-self-preserved g c =
    let place = c.skip.ensures.place in
    let same = c.fill.ensures.place in
    let before = c.loop-self.invariant.faults in
    let later = c.fill.ensures.cause.later in
    let source = ap g.S.Source.faults c.skip.ensures.source in
    record {
      on = λ b comes. comes_passed _ _ _ _ b _ _ _ _ _ _ (c.loop-self.invariant.on b comes) c.in_ok-fill.ensures.comes c.skip.ensures.comes
          (c.in_ok-fill.ensures.filled c.if-branch.true) (omega (arith, place, same));
      faults = omega (arith, before, later, source);
    }

pub returns-clause-total : goal.returns-clause-total
returns-clause-total g c b comes =
    let on = c.loop-self.invariant.on b comes in
    let end = c.in_ok-fill.ensures.end c.if-branch.false on.now on.comes in
    let size = on.size in
    let len = ap (length {A = ℕ}) end.0 in
    let counted = c.len.ensures in
    let same = c.fill.ensures.place in
    omega (arith, size, len, counted, same)
