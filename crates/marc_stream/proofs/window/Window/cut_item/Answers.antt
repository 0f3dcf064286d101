use Rattle.std.proofs.Common.{[]}
use Rattle.marc_stream.proofs.Windows.{on_err, blocks_then}
use Rattle.marc_stream.proofs.Cuts.{still_begins, cuts_piece, cuts_overlong, cuts_unfinished, cuts_skipped, none_in_none}
use Rattle.marc_stream.proofs.window.Window.cut_item.Goals as goal

pub returns-in_err-skip_item-in-Beyond-clause-blocked : goal.returns-in_err-skip_item-in-Beyond-clause-blocked
returns-in_err-skip_item-in-Beyond-clause-blocked g c =
    on_err _ (blocks_then _ _ _ [] c.find_end.ensures.moves none_in_none c.in_err-skip_item-in-Beyond.ensures.blocked)

pub returns-then-len-gt-MAX_PIECE_LEN-clause-cuts : goal.returns-then-len-gt-MAX_PIECE_LEN-clause-cuts
returns-then-len-gt-MAX_PIECE_LEN-clause-cuts g c =
    let ends = rw (c.in-At.is) at c.in_ok-len.ensures.ends in
    cuts_overlong _ _ _ _ _ c.find_end.ensures.moves (still_begins _ _ c.find_end.ensures.begins c.requires) ends.0 ends.1 c.take.ensures.moves
    c.offset-offset.ensures c.if-len-gt-MAX_PIECE_LEN.true

pub returns-else-len-gt-MAX_PIECE_LEN-clause-cuts : goal.returns-else-len-gt-MAX_PIECE_LEN-clause-cuts
returns-else-len-gt-MAX_PIECE_LEN-clause-cuts g c =
    let ends = rw (c.in-At.is) at c.in_ok-len.ensures.ends in
    cuts_piece _ _ _ _ _ c.find_end.ensures.moves (still_begins _ _ c.find_end.ensures.begins c.requires) ends.0 ends.1 c.take.ensures.moves
    c.take.ensures.behind c.offset-offset.ensures c.if-len-gt-MAX_PIECE_LEN.false

pub returns-in-Missing-clause-cuts : goal.returns-in-Missing-clause-cuts
returns-in-Missing-clause-cuts g c =
    let ends = rw (c.in-Missing.is) at c.in_ok-len.ensures.ends in
    cuts_unfinished _ _ _ _ _ c.find_end.ensures.moves (still_begins _ _ c.find_end.ensures.begins c.requires) c.len.ensures ends.0 ends.1 ends.2
    c.take-in-Missing.ensures.moves c.take-in-Missing.ensures.buffered c.take-in-Missing.ensures.left c.offset-offset.ensures

pub returns-in_ok-skip_item-in-Beyond-clause-cuts : goal.returns-in_ok-skip_item-in-Beyond-clause-cuts
returns-in_ok-skip_item-in-Beyond-clause-cuts g c =
    let ends = rw (c.in-Beyond.is) at c.in_ok-len.ensures.ends in
    cuts_skipped _ _ _ _ c.find_end.ensures.moves (still_begins _ _ c.find_end.ensures.begins c.requires) ends.1 c.in_ok-skip_item-in-Beyond.ensures.skips
    c.offset-offset.ensures
