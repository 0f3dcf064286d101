use Rattle.std.proofs.Common.{refl}
use Rattle.outside_real.proofs.NameLemmas.{other_names_stay}
use Rattle.outside_real.proofs.names.Names.remove.Goals as goal

pub returns-clause-others : goal.returns-clause-others
returns-clause-others c = λ n other. other_names_stay _ _ n _ _ _ refl c.remove.ensures.updates other
