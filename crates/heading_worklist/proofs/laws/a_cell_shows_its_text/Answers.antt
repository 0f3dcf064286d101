use Rattle.heading_worklist.proofs.CsvReading.{apostrophe_off}
use Rattle.heading_worklist.proofs.laws.a_cell_shows_its_text.Goals as goal

pub returns : goal.returns
returns c = apostrophe_off
