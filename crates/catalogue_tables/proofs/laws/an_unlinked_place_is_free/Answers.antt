use Rattle.catalogue_tables.proofs.Linked.{unlinked_free}
use Rattle.catalogue_tables.proofs.laws.an_unlinked_place_is_free.Goals as goal

pub returns : goal.returns
returns c = unlinked_free
