use Rattle.catalogue_tables.proofs.Rowed.{tells_rows}
use Rattle.catalogue_tables.proofs.index_laws.the_index_tells_the_rows_of_a_state.Goals as goal

pub returns : goal.returns
returns c = tells_rows
