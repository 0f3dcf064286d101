use Rattle.catalogue_tables.proofs.Waited.{waits_told}
use Rattle.catalogue_tables.proofs.laws.what_waits_is_told.Goals as goal

pub returns : goal.returns
returns c = λ known keys waits forms key number place fit is. waits_told known keys waits fit forms key number place is
