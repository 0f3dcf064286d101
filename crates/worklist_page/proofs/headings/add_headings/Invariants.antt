use Rattle.std.proofs.Common.{drop, map}
use Rattle.worklist_page.specs.Headings.{heading_row}
use Rattle.worklist_page.proofs.Rows.{IsAdding}
use Rattle.worklist_page.proofs.headings.add_headings.Given as goal

abbrev pub invariant-loop-heading : goal.invariant-loop-heading
invariant-loop-heading l =
    IsAdding (heading_row l.engine.state) l.initial.page.items (map (λ c. c.now) l.found) l.page.items (drop l.heading-index (map (λ c. c.now) l.found))
