use Rattle.std.proofs.Common.{arith}
use Rattle.worklist_page.proofs.Rows.{more_rows, next_at}
use Rattle.worklist_page.specs.Page.{library_row}
use Rattle.worklist_page.proofs.libraries.add_libraries.Goals as goal

pub loop-rank-preserved : goal.loop-rank-preserved
loop-rank-preserved c = more_rows library_row _ _ _ _ _ _ _ c.loop-rank.invariant (next_at c.args.ranks.now c.loop-rank.rank-index c.rank-item.result (omega arith) c.rank-item.is) c.in_ok-add_library.ensures
