use Rattle.std.proofs.Common.{subst}
use Rattle.file_holdings.specs.Making.{IsNotMade}
use Rattle.file_holdings.proofs.Given.{given_holding, given_no_holding, given_no_piece}
use Rattle.file_holdings.proofs.items.FileHoldings.next.Goals as goal

pub returns-in-Ok-clause-gives : goal.returns-in-Ok-clause-gives
returns-in-Ok-clause-gives g c =
    let piece = rw (c.in-Piece.is) at c.next.follows.holds-at-none in
    given_holding _ _ _ _ _ c.in-Piece.ordinal c.in-Piece.offset c.self.view_is c.requires c.in-Piece.bytes.now c.in-Ok.item piece c.in-Ok.ensures.made

pub returns-in-Err-Refused-clause-gives : goal.returns-in-Err-Refused-clause-gives
returns-in-Err-Refused-clause-gives g c =
    let piece = rw (c.in-Piece.is) at c.next.follows.holds-at-none in
    given_no_holding _ _ _ _ _ c.in-Piece.ordinal c.in-Piece.offset c.self.view_is c.requires c.in-Piece.bytes.now c.in-Err-Refused.refusal piece
    (subst (IsNotMade c.self.inside.library c.in-Piece.bytes.now) c.in-Err-Refused.field-0-is c.in-Err-Refused.ensures.refused)

pub returns-in-Refused-clause-gives : goal.returns-in-Refused-clause-gives
returns-in-Refused-clause-gives g c =
    let given = rw (c.in-Refused.is) at c.next.follows.holds-at-none in
    given_no_piece _ _ _ _ _ c.in-Refused.ordinal c.in-Refused.offset c.self.view_is c.requires c.in-Refused.refusal given
