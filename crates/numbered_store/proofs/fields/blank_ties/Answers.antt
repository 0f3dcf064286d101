use Rattle.std.proofs.Common.{◌∙◌, arith, refl}
use Rattle.numbered_store.proofs.Tied.{blanks_done, blanks_next}
use Rattle.numbered_store.proofs.fields.blank_ties.Goals as goal

pub loop-done-preserved : goal.loop-done-preserved
loop-done-preserved c =
    blanks_next c.args.count c.loop-done.done _ _ _ c.loop-done-test.true c.loop-done.invariant c.in_ok-push.ensures.items refl

pub returns : goal.returns
returns c = c.from_vec.ensures ∙ blanks_done c.args.count c.loop-done.done _ (omega (arith, c.loop-done-test.false)) c.loop-done.invariant
