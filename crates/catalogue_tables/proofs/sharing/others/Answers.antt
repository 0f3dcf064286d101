use Rattle.catalogue_tables.proofs.Shared.{lent_sorted}
use Rattle.catalogue_tables.proofs.sharing.others.Goals as goal

pub returns-in_err-push-clause-ordered : goal.returns-in_err-push-clause-ordered
returns-in_err-push-clause-ordered c = lent_sorted c.args.found.keys c.into_iter-key-iterator.ensures.into_iter_gives.4

pub returns-clause-ordered : goal.returns-clause-ordered
returns-clause-ordered c = lent_sorted c.args.found.keys c.into_iter-key-iterator.ensures.into_iter_gives.4
