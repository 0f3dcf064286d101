use Rattle.worklist_page.proofs.Rows.{more_rows}
use Rattle.worklist_page.specs.Page.{brought_row}
use Rattle.worklist_page.proofs.sections.add_counts.Goals as goal

pub loop-bringer-preserved : goal.loop-bringer-preserved
loop-bringer-preserved c = more_rows brought_row _ _ _ _ _ _ _ c.loop-bringer.invariant c.in-Some.ensures.steps c.in_ok-add_brought_row.ensures
