use Rattle.std.proofs.Common.{drop}
use Rattle.worklist_page.proofs.Rows.{IsAdding}
use Rattle.worklist_page.specs.Page.{library_row}
use Rattle.worklist_page.proofs.libraries.add_libraries.Given as goal

abbrev pub invariant-loop-rank : goal.invariant-loop-rank
invariant-loop-rank l = IsAdding library_row l.initial.page.items l.ranks l.page.items (drop l.rank-index l.ranks)
