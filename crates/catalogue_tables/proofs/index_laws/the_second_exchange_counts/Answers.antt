use Rattle.catalogue_tables.proofs.Followed.{follows_then}
use Rattle.catalogue_tables.proofs.index_laws.the_second_exchange_counts.Goals as goal

pub returns : goal.returns
returns c = follows_then
