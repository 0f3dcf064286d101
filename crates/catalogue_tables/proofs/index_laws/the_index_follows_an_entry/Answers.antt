use Rattle.catalogue_tables.proofs.Comings.{follows_arrival}
use Rattle.catalogue_tables.proofs.index_laws.the_index_follows_an_entry.Goals as goal

pub returns : goal.returns
returns c = follows_arrival
