use Rattle.worklist_page.proofs.Adding.{then}
use Rattle.worklist_page.proofs.sections.add_totals_rows.Goals as goal

pub returns : goal.returns
returns c = then _ _ _ _ _ (then _ _ _ _ _ (then _ _ _ _ _ (then _ _ _ _ _ c.in_ok-add_count_row.ensures c.in_ok-add_count_row-2.ensures) c.in_ok-add_count_row-3.ensures) c.in_ok-add_count_row-4.ensures) c.in_ok-add_count_row-5.ensures
