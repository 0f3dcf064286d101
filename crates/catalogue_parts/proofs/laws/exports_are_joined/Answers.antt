use Rattle.catalogue_parts.proofs.Joined.{exports_joined}
use Rattle.catalogue_parts.proofs.laws.exports_are_joined.Goals as goal

pub returns : goal.returns
returns c keep p none alone = exports_joined keep p.bounds p.whole none p.jobs p.admitted alone p.take
