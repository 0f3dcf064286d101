use Rattle.catalogue_tables.proofs.Followed.{tells_exchanged}
use Rattle.catalogue_tables.proofs.index_laws.the_index_follows_an_authority.Goals as goal

pub returns : goal.returns
returns c = tells_exchanged
