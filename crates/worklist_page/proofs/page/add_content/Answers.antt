use Rattle.worklist_page.proofs.Adding.{then}
use Rattle.worklist_page.proofs.page.add_content.Goals as goal

pub returns : goal.returns
returns c = then _ _ _ _ _ (then _ _ _ _ _ (then _ _ _ _ _ (then _ _ _ _ _ (then _ _ _ _ _ c.in_ok-add_named.ensures c.in_ok-add_totals.ensures) c.in_ok-add_libraries_table.ensures) c.in_ok-add_kinds_table.ensures) c.in_ok-add_headings_table.ensures) c.in_ok-add_brought_table.ensures
