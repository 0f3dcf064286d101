use Rattle.catalogue_parts.proofs.Joined.{report_joined}
use Rattle.catalogue_parts.proofs.laws.reports_are_joined.Goals as goal

pub returns : goal.returns
returns c p none alone = report_joined p.bounds p.whole none p.jobs p.admitted alone p.take
