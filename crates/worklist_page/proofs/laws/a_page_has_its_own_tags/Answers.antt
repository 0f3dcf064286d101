use Rattle.worklist_page.proofs.Tags.{page_read}
use Rattle.worklist_page.proofs.laws.a_page_has_its_own_tags.Goals as goal

pub returns : goal.returns
returns c = page_read
