use Rattle.catalogue_tables.proofs.Followed.{tells_nobody}
use Rattle.catalogue_tables.proofs.index_laws.a_blank_index_tells_of_nobody.Goals as goal

pub returns : goal.returns
returns c = tells_nobody
