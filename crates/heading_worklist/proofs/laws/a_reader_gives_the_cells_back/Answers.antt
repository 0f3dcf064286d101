use Rattle.heading_worklist.proofs.CsvReading.{read_back}
use Rattle.heading_worklist.proofs.laws.a_reader_gives_the_cells_back.Goals as goal

pub returns : goal.returns
returns c = read_back
