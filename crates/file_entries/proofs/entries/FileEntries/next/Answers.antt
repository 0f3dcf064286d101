use Rattle.std.proofs.Common.{subst}
use Rattle.reading.specs.Answers.{IsNotPrepared}
use Rattle.file_entries.proofs.Given.{given_entry, given_no_entry, given_no_piece}
use Rattle.file_entries.proofs.entries.FileEntries.next.Goals as goal

pub returns-in-Ok-clause-gives : goal.returns-in-Ok-clause-gives
returns-in-Ok-clause-gives g c =
    let piece = rw (c.in-Piece.is) at c.next.follows.holds-at-none in
    given_entry _ _ _ _ _ _ c.in-Piece.ordinal c.in-Piece.offset c.in-Piece.bytes.now c.in-Ok.prepared c.self.view_is c.requires piece
    c.in-Ok.ensures.read c.in-Ok.ensures.taken c.in-Ok.ensures.entry

pub returns-in-Err-Refused-clause-gives : goal.returns-in-Err-Refused-clause-gives
returns-in-Err-Refused-clause-gives g c =
    let piece = rw (c.in-Piece.is) at c.next.follows.holds-at-none in
    given_no_entry _ _ _ _ _ _ c.in-Piece.ordinal c.in-Piece.offset c.in-Piece.bytes.now c.in-Err-Refused.refusal c.self.view_is c.requires piece
    (subst (IsNotPrepared c.self.inside.library c.in-Piece.bytes.now) c.in-Err-Refused.field-0-is c.in-Err-Refused.ensures.refused)

pub returns-in-Refused-clause-gives : goal.returns-in-Refused-clause-gives
returns-in-Refused-clause-gives g c =
    let given = rw (c.in-Refused.is) at c.next.follows.holds-at-none in
    given_no_piece _ _ _ _ _ _ c.in-Refused.ordinal c.in-Refused.offset c.in-Refused.refusal c.self.view_is c.requires given
