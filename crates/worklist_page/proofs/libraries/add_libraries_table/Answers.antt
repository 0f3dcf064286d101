use Rattle.worklist_page.proofs.Rows.{whole_table}
use Rattle.worklist_page.proofs.libraries.add_libraries_table.Goals as goal

pub returns : goal.returns
returns c = whole_table _ _ _ _ _ _ _ _ _ c.in_ok-start_table.ensures c.in_ok-add_shares_columns.ensures c.in_ok-start_rows.ensures c.in_ok-add_figures.ensures c.in_ok-end_table.ensures
