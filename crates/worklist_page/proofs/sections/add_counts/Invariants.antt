use Rattle.worklist_page.proofs.Rows.{IsAdding}
use Rattle.worklist_page.specs.Page.{brought_row}
use Rattle.worklist_page.proofs.sections.add_counts.Given as goal

abbrev pub invariant-loop-bringer : goal.invariant-loop-bringer
invariant-loop-bringer l = IsAdding brought_row l.initial.page.items l.rows.entries l.page.items l.bringer-iterator
