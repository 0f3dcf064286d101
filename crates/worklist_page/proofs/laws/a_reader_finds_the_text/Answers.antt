use Rattle.worklist_page.proofs.Escaping.{text_read}
use Rattle.worklist_page.proofs.laws.a_reader_finds_the_text.Goals as goal

pub returns : goal.returns
returns c = text_read
