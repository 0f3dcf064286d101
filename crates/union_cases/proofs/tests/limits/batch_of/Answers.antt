use Rattle.union_cases.proofs.Alike.{one_more}
use Rattle.union_cases.proofs.tests.limits.batch_of.Goals as goal

pub copies-preserved : goal.copies-preserved
copies-preserved c = one_more _ _ _ _ _ _ c.copies.invariant c.in_ok-copy.ensures.entry c.in-Ok.ensures.pushed
