use Rattle.catalogue_tables.proofs.Followed.{follows_nobody}
use Rattle.catalogue_tables.proofs.index_laws.a_missing_row_is_nobodys.Goals as goal

pub returns : goal.returns
returns c = follows_nobody
