use Rattle.catalogue_parts.proofs.Joined.{totals_joined}
use Rattle.catalogue_parts.proofs.laws.totals_are_joined.Goals as goal

pub returns : goal.returns
returns c p none alone = totals_joined p.bounds p.whole none p.jobs p.admitted alone p.take
