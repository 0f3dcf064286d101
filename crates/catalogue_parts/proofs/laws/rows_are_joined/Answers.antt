use Rattle.catalogue_parts.proofs.Jobs.{rows_joined}
use Rattle.catalogue_parts.proofs.laws.rows_are_joined.Goals as goal

pub returns : goal.returns
returns c p = rows_joined p.bounds p.whole p.jobs p.admitted p.take
