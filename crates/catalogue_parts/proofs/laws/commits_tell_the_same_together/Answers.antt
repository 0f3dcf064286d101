use Rattle.catalogue_parts.proofs.Loads.{linked_together, ambiguous_together, unlinked_together}
use Rattle.catalogue_parts.proofs.laws.commits_tell_the_same_together.Goals as goal

pub returns-clause-linked : goal.returns-clause-linked
returns-clause-linked c = linked_together

pub returns-clause-ambiguous : goal.returns-clause-ambiguous
returns-clause-ambiguous c = ambiguous_together

pub returns-clause-unlinked : goal.returns-clause-unlinked
returns-clause-unlinked c = unlinked_together
