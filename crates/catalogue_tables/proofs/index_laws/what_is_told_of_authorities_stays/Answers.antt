use Rattle.catalogue_tables.proofs.Followed.{tells_kept}
use Rattle.catalogue_tables.proofs.index_laws.what_is_told_of_authorities_stays.Goals as goal

pub returns : goal.returns
returns c = tells_kept
