use Rattle.std.proofs.Common.{refl}
use Rattle.marc_stream.proofs.Streams.{gives_piece, gives_refusal, gives_end, gives_fault}
use Rattle.marc_stream.proofs.pieces.Pieces.next.Goals as goal

pub returns-in-Ok-Some-Piece : goal.returns-in-Ok-Some-Piece
returns-in-Ok-Some-Piece g c =
    let cuts = rw (c.in-Ok-Some-Piece.field-0-is, c.in-Ok-Some-Piece.field-0-0-is) at c.in-Ok-Some-Piece.ensures.cuts in
    ((refl, (λ _. tt), gives_piece _ _ _ _ _ _ _ _ c.self.view_is c.requires cuts c.last.ensures), record { gives = tt })

pub returns-in-Ok-Some-Refused : goal.returns-in-Ok-Some-Refused
returns-in-Ok-Some-Refused g c =
    let cuts = rw (c.in-Ok-Some-Refused.field-0-is, c.in-Ok-Some-Refused.field-0-0-is) at c.in-Ok-Some-Refused.ensures.cuts in
    ((refl, (λ _. tt), gives_refusal _ _ _ _ _ _ _ c.self.view_is c.requires cuts), record { gives = tt })

pub returns-in-Ok-None : goal.returns-in-Ok-None
returns-in-Ok-None g c =
    let cuts = rw (c.in-Ok-None.field-0-is) at c.in-Ok-None.ensures.cuts in
    ((refl, (λ _. tt), gives_end _ _ _ _ _ c.self.view_is c.requires cuts), record { gives = tt })

pub returns-in-Err : goal.returns-in-Err
returns-in-Err g c = ((refl, (λ _. tt), gives_fault _ _ _ _ _ c.self.view_is c.requires c.in-Err.ensures.blocked), record { gives = tt })
