use Rattle.catalogue_parts.proofs.Joined.{ambiguous_joined, awaiting_joined}
use Rattle.catalogue_parts.proofs.laws.lines_are_joined.Goals as goal

pub returns-clause-ambiguous : goal.returns-clause-ambiguous
returns-clause-ambiguous c p none alone = ambiguous_joined p.bounds p.whole none p.jobs p.admitted alone p.take

pub returns-clause-awaiting : goal.returns-clause-awaiting
returns-clause-awaiting c p none alone = awaiting_joined p.bounds p.whole none p.jobs p.admitted alone p.take
