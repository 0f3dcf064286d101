use Rattle.worklist_page.proofs.Adding.{then}
use Rattle.worklist_page.proofs.headings.add_columns.Goals as goal

pub returns : goal.returns
returns c = then _ _ _ _ _ (then _ _ _ _ _ (then _ _ _ _ _ (then _ _ _ _ _ (then _ _ _ _ _ c.in_ok-add_column.ensures c.in_ok-add_column-2.ensures) c.in_ok-add_column-3.ensures) c.in_ok-add_column-4.ensures) c.in_ok-add_column-5.ensures) c.in_ok-add_column-6.ensures
