use Rattle.std.proofs.Common.{Bool, Ok, subst}
use Rattle.std.proofs.lemmas.Result.{err_from_is_err_and}
use Rattle.split_command.specs.Reading.{DealsNext}
use Rattle.split_command.proofs.Stepped.{has_dealt_none, has_dealt_more, has_dealt_all, has_dealt_part, item_falls}
use Rattle.split_command.proofs.dealing.deal_all.Goals as goal

pub items-init : goal.items-init
items-init g c =
    has_dealt_none g.K.Sink.written g.K.Sink.faults c.args.code.now c.args.bounds.now c.args.first c.args.pieces.now c.args.outs.now c.requires.going

pub items-preserved : goal.items-preserved
items-preserved g c =
    let deals = subst (λ (b : Bool). DealsNext g.K.Sink.written g.K.Sink.faults c.args.code.now c.args.bounds.now c.args.first c.items.pieces c.deal_next.new.pieces
    c.items.outs c.deal_next.new.outs (Ok b)) c.if-branch.true c.in_ok-deal_next.ensures.deals in
    has_dealt_more g.K.Sink.written g.K.Sink.faults c.args.code.now c.args.bounds.now c.args.first c.args.pieces.now c.args.outs.now _ _ _ _ c.items.invariant deals

pub items-smaller : goal.items-smaller
items-smaller g c =
    let deals = subst (λ (b : Bool). DealsNext g.K.Sink.written g.K.Sink.faults c.args.code.now c.args.bounds.now c.args.first c.items.pieces c.deal_next.new.pieces
    c.items.outs c.deal_next.new.outs (Ok b)) c.if-branch.true c.in_ok-deal_next.ensures.deals in
    item_falls g.K.Sink.written g.K.Sink.faults c.args.code.now c.args.bounds.now c.args.first c.args.pieces.now c.args.outs.now _ _ _ _ deals

pub returns-clause-deals : goal.returns-clause-deals
returns-clause-deals g c =
    let deals = subst (λ (b : Bool). DealsNext g.K.Sink.written g.K.Sink.faults c.args.code.now c.args.bounds.now c.args.first c.items.pieces c.deal_next.new.pieces
    c.items.outs c.deal_next.new.outs (Ok b)) c.if-branch.false c.in_ok-deal_next.ensures.deals in
    has_dealt_all g.K.Sink.written g.K.Sink.faults c.args.code.now c.args.bounds.now c.args.first c.args.pieces.now c.args.outs.now _ _ _ _ c.items.invariant deals

pub returns-in_err-deal_next-clause-deals : goal.returns-in_err-deal_next-clause-deals
returns-in_err-deal_next-clause-deals g c =
    let exit = err_from_is_err_and c.from_residual.result c.from_residual.ensures.1 in
    rw (exit.1, exit.2)
    (has_dealt_part g.K.Sink.written g.K.Sink.faults c.args.code.now c.args.bounds.now c.args.first c.args.pieces.now c.args.outs.now _ _ _ _ c.in_err-deal_next.field-0.0
    c.items.invariant c.deal_next.ensures.faults c.in_err-deal_next.ensures.deals)
