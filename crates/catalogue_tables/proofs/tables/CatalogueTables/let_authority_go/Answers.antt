use Rattle.std.proofs.Common.{refl}
use Rattle.catalogue_tables.proofs.tables.CatalogueTables.let_authority_go.Goals as goal

pub returns-clause-only : goal.returns-clause-only
returns-clause-only c = λ keys ordered. record { forms = refl; waits = refl; links = refl; ordered = c.let_go.ensures.ordered keys ordered }
