use Rattle.catalogue_tables.proofs.Followed.{tells_rows_kept}
use Rattle.catalogue_tables.proofs.index_laws.what_is_told_stays_with_the_rows.Goals as goal

pub returns : goal.returns
returns c = tells_rows_kept
