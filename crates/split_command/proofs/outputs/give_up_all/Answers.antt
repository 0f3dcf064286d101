use Rattle.std.proofs.Common.{arith}
use Rattle.split_command.proofs.SideBySide.{given_up_none, given_up_more, last_begun, last_named}
use Rattle.split_command.proofs.outputs.give_up_all.Goals as goal

pub loop-out-init : goal.loop-out-init
loop-out-init g c = (given_up_none g.R.Out.Sink.faults _ _ _ c.requires.many c.requires.begun, omega (arith, c.requires.many))

pub give_up_out-requires : goal.give_up_out-requires
give_up_out-requires g c =
    let named = last_named c.args.names.now _ c.pop.new.self.items c.in-Some.out c.len.result c.index-names-len.result c.as_str.result.now
    c.in-Some.ensures.items c.loop-out.invariant.1 (omega (arith, c.pop.new.self.ok)) c.index-names-len.is c.as_str.ensures in
    last_begun c.args.names.now c.args.outs.items _ c.pop.new.self.items c.in-Some.out _ _ _ c.in-Some.ensures.items c.loop-out.invariant.0.are named

pub loop-out-preserved : goal.loop-out-preserved
loop-out-preserved g c =
    let named = last_named c.args.names.now _ c.pop.new.self.items c.in-Some.out c.len.result c.index-names-len.result c.as_str.result.now
    c.in-Some.ensures.items c.loop-out.invariant.1 (omega (arith, c.pop.new.self.ok)) c.index-names-len.is c.as_str.ensures in
    let next = given_up_more g.R.Out.Sink.faults c.args.names.now c.args.outs.items _ c.pop.new.self.items c.in-Some.out _ _ _ _ c.requires.apart
    c.in-Some.ensures.items c.loop-out.invariant.0 named c.give_up_out.ensures.apart c.give_up_out.ensures.closed c.give_up_out.ensures.untouched
    c.give_up_out.ensures.counted in
    (next, next.are.few)

pub returns-clause-rose : goal.returns-clause-rose
returns-clause-rose g c =
    let none = rw (c.in_default.is) at c.pop.ensures.cases in
    λ index name out named had rose. c.loop-out.invariant.0.raised index name out (omega (arith, none.0, c.loop-out.outs.ok)) named had rose
