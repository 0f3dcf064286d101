use Rattle.std.proofs.Common.{length, ◌∙◌, sym, ap, arith, ℕ}
use Rattle.journal_verification.proofs.coming.Coming.fill.Goals as goal

pub returns-then-not-branch-clause-end : goal.returns-then-not-branch-clause-end
returns-then-not-branch-clause-end g c false b comes =
    let before = c.loop-self.invariant.comes b comes in
    let end = c.in_ok-read_more.ensures.end c.if-not-branch.true in
    let all = end.all b before in
    let len = ap (length {A = ℕ}) all in
    let shorter = c.loop-self-test.true in
    let counted = c.len.ensures in
    (all ∙ sym end.same, omega (arith, len, shorter, counted))
