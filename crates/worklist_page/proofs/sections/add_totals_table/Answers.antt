use Rattle.worklist_page.proofs.Rows.{whole_table}
use Rattle.worklist_page.proofs.sections.add_totals_table.Goals as goal

pub returns : goal.returns
returns c = whole_table _ _ _ _ _ _ _ _ _ c.in_ok-start_table.ensures c.in_ok-add_totals_columns.ensures c.in_ok-start_rows.ensures c.in_ok-add_totals_rows.ensures c.in_ok-end_table.ensures
