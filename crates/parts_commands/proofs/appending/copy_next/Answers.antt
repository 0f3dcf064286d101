use Rattle.std.proofs.Common.{◌∙◌, sym, ap, subst}
use Rattle.parts_commands.specs.Exports.{is_authority}
use Rattle.parts_commands.specs.Taking.{AreNotCopied}
use Rattle.parts_commands.proofs.Copied.{authority_not_copied, refused_not_copied, same_place}
use Rattle.parts_commands.proofs.appending.copy_next.Goals as goal

pub returns-in-Piece-clause-other : goal.returns-in-Piece-clause-other
returns-in-Piece-clause-other g c = λ place is tells.
    let taken = rw (c.in-Piece.is) at c.in_ok-place.ensures.gives in
    subst (AreNotCopied c.args.export.now.coming) (same_place c.in-Piece.place place is)
    (authority_not_copied c.args.export.now c.take_next.new.pieces c.in-Piece.place tells c.take_next.new.piece.items taken
    (ap is_authority (sym c.as_slice.ensures.value) ∙ sym c.is_authority.ensures ∙ c.if-is_authority.true))

pub returns-in-NoPiece-clause-other : goal.returns-in-NoPiece-clause-other
returns-in-NoPiece-clause-other g c = λ place is tells.
    subst (AreNotCopied c.args.export.now.coming) (same_place c.in-NoPiece.place place is)
    (refused_not_copied c.args.export.now c.take_next.new.pieces c.in-NoPiece.place tells (rw (c.in-NoPiece.is) at c.in_ok-place.ensures.gives))
