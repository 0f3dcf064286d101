use Rattle.marc_stream.proofs.Scans.{line_ends_end_none}
use Rattle.marc_stream.proofs.Windows.{on_err, blocks_then}
use Rattle.marc_stream.proofs.Cuts.{cuts_behind}
use Rattle.marc_stream.proofs.window.Window.cut.Goals as goal

pub returns-in_err-cut_item-clause-blocked : goal.returns-in_err-cut_item-clause-blocked
returns-in_err-cut_item-clause-blocked g c =
    let ends = c.in_ok-skip_line_ends.ensures.skips in
    on_err _ (blocks_then _ _ _ ends.line_ends ends.moves (line_ends_end_none _ ends.skipped) c.in_err-cut_item.ensures.blocked)

pub returns-clause-cuts : goal.returns-clause-cuts
returns-clause-cuts g c =
    let ends = rw (c.if-not-branch.false) at c.in_ok-skip_line_ends.ensures.skips in
    cuts_behind _ _ _ _ ends c.in_ok-cut_item.ensures.cuts
