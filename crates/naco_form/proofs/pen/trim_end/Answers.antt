use Rattle.std.proofs.Common.{◌∙◌}
use Rattle.naco_form.proofs.EndLemmas.{trim_popped, trim_done}
use Rattle.naco_form.proofs.pen.trim_end.Goals as goal

pub loop-preserved : goal.loop-preserved
loop-preserved c = trim_popped _ _ c.loop-test.ensures.cases ∙ c.loop.invariant

pub returns-clause-trimmed : goal.returns-clause-trimmed
returns-clause-trimmed c = trim_done _ _ c.loop-test.ensures.cases ∙ c.loop.invariant
