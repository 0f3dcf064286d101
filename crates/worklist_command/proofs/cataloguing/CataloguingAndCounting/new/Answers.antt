use Rattle.std.proofs.Common.{[], sym, subst}
use Rattle.durable_catalogue.specs.Loading.{IsBuilt}
use Rattle.worklist_command.proofs.cataloguing.CataloguingAndCounting.new.Goals as goal

pub returns-clause-built : goal.returns-clause-built
returns-clause-built g c =
    subst (λ limits. IsBuilt limits [] c.new-building.result.core) (sym c.new-building.ensures.limits) c.new-building.ensures.built
