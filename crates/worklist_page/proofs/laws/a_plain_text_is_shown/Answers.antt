use Rattle.worklist_page.proofs.Escaping.{plain_shown}
use Rattle.worklist_page.proofs.laws.a_plain_text_is_shown.Goals as goal

pub returns : goal.returns
returns c = plain_shown
