use Rattle.worklist_page.proofs.Adding.{then}
use Rattle.worklist_page.proofs.page.add_page.Goals as goal

pub returns : goal.returns
returns c = then _ _ _ _ _ c.in_ok-add_doctype.ensures c.in_ok-add_html.ensures
