use Rattle.catalogue_parts.proofs.Joined.{counts_joined}
use Rattle.catalogue_parts.proofs.laws.headings_are_counted_together.Goals as goal

pub returns : goal.returns
returns c test p none alone = counts_joined test p.bounds p.whole none p.jobs p.admitted alone p.take
