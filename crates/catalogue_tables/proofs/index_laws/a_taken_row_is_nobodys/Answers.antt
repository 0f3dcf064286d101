use Rattle.catalogue_tables.proofs.Followed.{follows_taken}
use Rattle.catalogue_tables.proofs.index_laws.a_taken_row_is_nobodys.Goals as goal

pub returns : goal.returns
returns c = follows_taken
