use Rattle.worklist_page.proofs.Escaping.{text_unmarked}
use Rattle.worklist_page.proofs.laws.a_text_has_no_markup.Goals as goal

pub returns : goal.returns
returns c = text_unmarked
