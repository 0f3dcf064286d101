use Rattle.std.proofs.Common.{◌∙◌, refl, ap, not, arith}
use Rattle.split_command.proofs.SideBySide.{ended_more, last_begun, last_named, and_failed, and_kept}
use Rattle.split_command.proofs.outputs.close_all.Goals as goal

pub end_out-requires-after_bounds : goal.end_out-requires-after_bounds
end_out-requires-after_bounds g c κs within =
    let named = last_named c.args.names.now _ c.pop.new.self.items c.in-Some.out c.len.result c.index-names-len.result c.index-names-len.result
    c.in-Some.ensures.items c.loop-out.invariant.1 (omega (arith, c.pop.new.self.ok)) c.index-names-len.is refl in
    last_begun c.args.names.now c.args.outs.items _ c.pop.new.self.items c.in-Some.out _ _ _ c.in-Some.ensures.items c.loop-out.invariant.0.are named

pub loop-out-preserved-then-is_err : goal.loop-out-preserved-then-is_err
loop-out-preserved-then-is_err g c =
    let named = last_named c.args.names.now _ c.pop.new.self.items c.in-Some.out c.len.result c.index-names-len.result c.index-names-len.result
    c.in-Some.ensures.items c.loop-out.invariant.1 (omega (arith, c.pop.new.self.ok)) c.index-names-len.is refl in
    let next = ended_more g.R.Out.Sink.written c.args.names.now c.args.outs.items _ c.pop.new.self.items c.in-Some.out _ _ _ _ c.loop-out.closed _ c.end_out.result c.requires.apart
    c.in-Some.ensures.items c.loop-out.invariant.0 named c.end_out.ensures (and_failed c.loop-out.closed _ (c.is_err.ensures.negation ∙ ap not c.if-is_err.true)) in
    (next, next.are.few)

pub loop-out-preserved : goal.loop-out-preserved
loop-out-preserved g c =
    let named = last_named c.args.names.now _ c.pop.new.self.items c.in-Some.out c.len.result c.index-names-len.result c.index-names-len.result
    c.in-Some.ensures.items c.loop-out.invariant.1 (omega (arith, c.pop.new.self.ok)) c.index-names-len.is refl in
    let next = ended_more g.R.Out.Sink.written c.args.names.now c.args.outs.items _ c.pop.new.self.items c.in-Some.out _ _ _ _ c.loop-out.closed _ c.end_out.result c.requires.apart
    c.in-Some.ensures.items c.loop-out.invariant.0 named c.end_out.ensures (and_kept c.loop-out.closed _ (c.is_err.ensures.negation ∙ ap not c.if-is_err.false)) in
    (next, next.are.few)
