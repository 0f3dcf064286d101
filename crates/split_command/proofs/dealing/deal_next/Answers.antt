use Rattle.std.proofs.Common.{subst}
use Rattle.split_command.specs.Reading.{HasShare}
use Rattle.split_command.proofs.Stepped.{step_to_share, step_refused, step_no_piece}
use Rattle.split_command.proofs.dealing.deal_next.Goals as goal

pub returns-in-Ok-clause-deals : goal.returns-in-Ok-clause-deals
returns-in-Ok-clause-deals g c =
    let piece = rw (c.in-Piece.is) at c.next.follows.holds-at-none in
    let has = subst (HasShare c.args.code.now c.in-Piece.bytes.now c.in-Piece.ordinal c.args.bounds.now) c.in-Ok-Some.field-0-is c.in-Ok-Some.ensures in
    step_to_share g.K.Sink.written g.K.Sink.faults c.args.code.now c.args.bounds.now c.args.first c.args.pieces.now _ c.in-Piece.ordinal c.in-Piece.offset _
    c.in-Piece.bytes.now c.args.outs.now c.put.new.outs piece has c.in-Ok.ensures.dealt

pub returns-in-Ok-None-clause-deals : goal.returns-in-Ok-None-clause-deals
returns-in-Ok-None-clause-deals g c =
    let piece = rw (c.in-Piece.is) at c.next.follows.holds-at-none in
    let has = subst (HasShare c.args.code.now c.in-Piece.bytes.now c.in-Piece.ordinal c.args.bounds.now) c.in-Ok-None.field-0-is c.in-Ok-None.ensures in
    step_refused g.K.Sink.written g.K.Sink.faults c.args.code.now c.args.bounds.now c.args.first c.args.pieces.now _ c.in-Piece.ordinal c.in-Piece.offset
    c.in-Piece.bytes.now c.args.outs.now piece has

pub returns-in-Refused-clause-deals : goal.returns-in-Refused-clause-deals
returns-in-Refused-clause-deals g c =
    let given = rw (c.in-Refused.is) at c.next.follows.holds-at-none in
    step_no_piece g.K.Sink.written g.K.Sink.faults c.args.code.now c.args.bounds.now c.args.first c.args.pieces.now _ c.in-Refused.ordinal c.in-Refused.offset
    c.in-Refused.refusal c.args.outs.now given
