use Rattle.naco_form.proofs.EndLemmas.{pops}
use Rattle.naco_form.proofs.pen.pop_if.Goals as goal

pub returns-clause-cases : goal.returns-clause-cases
returns-clause-cases c = pops _ _ c.args.byte c.pop_if.result c.pop_if.ensures.utf8 c.requires c.pop_if.ensures.cases
