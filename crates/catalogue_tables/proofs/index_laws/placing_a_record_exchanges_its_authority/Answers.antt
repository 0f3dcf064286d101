use Rattle.catalogue_tables.proofs.Comings.{placing_exchanges}
use Rattle.catalogue_tables.proofs.index_laws.placing_a_record_exchanges_its_authority.Goals as goal

pub returns : goal.returns
returns c = placing_exchanges
