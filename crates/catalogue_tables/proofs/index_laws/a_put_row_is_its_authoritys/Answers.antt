use Rattle.catalogue_tables.proofs.Followed.{follows_put}
use Rattle.catalogue_tables.proofs.index_laws.a_put_row_is_its_authoritys.Goals as goal

pub returns : goal.returns
returns c = follows_put
