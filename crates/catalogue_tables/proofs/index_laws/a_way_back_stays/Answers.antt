use Rattle.catalogue_tables.proofs.WaysBack.{way_stays}
use Rattle.catalogue_tables.proofs.index_laws.a_way_back_stays.Goals as goal

pub returns : goal.returns
returns c = way_stays
