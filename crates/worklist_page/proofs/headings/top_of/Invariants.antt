use Rattle.std.proofs.Common.{map}
use Rattle.worklist_page.specs.Headings.{same_heading, top_of}
use Rattle.worklist_page.proofs.Tops.{IsFinding}
use Rattle.worklist_page.proofs.headings.top_of.Given as goal

abbrev pub invariant-loop-heading : goal.invariant-loop-heading
invariant-loop-heading l = IsFinding same_heading 100 (top_of l.fn.all.keys) (map (λ c. c.now) l.found.items) l.heading-iterator
