use Rattle.std.proofs.Common.{sym, subst, arith, rules}
use Rattle.split_command.proofs.SideBySide.{AreBeginning, beginning_more, next_named, apart_front, failed_begun, none_begun, begun_apart, begun_whole}
use Rattle.split_command.proofs.outputs.begin_all.Goals as goal

pub give_up_all-requires-clause-apart : goal.give_up_all-requires-clause-apart
give_up_all-requires-clause-apart g c κs within = apart_front c.args.names.now c.loop-index.index c.requires.apart

pub give_up_all-requires-clause-begun : goal.give_up_all-requires-clause-begun
give_up_all-requires-clause-begun g c κs within =
    failed_begun g.R.Out.Sink.written g.R.Out.Sink.faults c.args.names.now c.loop-index.outs.items _ _ _ c.loop-index.index c.loop-index.invariant.1 c.loop-index.invariant.0
    c.in-Err.ensures.failed

pub returns-in-Err : goal.returns-in-Err
returns-in-Err g c =
    let named = next_named c.args.names.now c.loop-index.outs.items c.loop-index.index c.index-names-index.result c.as_str.result.now
    c.loop-index.invariant.1 (omega arith) c.index-names-index.is c.as_str.ensures in
    let none = none_begun g.R.Out.Sink.written g.R.Out.Sink.faults c.args.names.now c.loop-index.outs.items _ _ _ _ _ c.loop-index.index c.loop-index.invariant.1 c.requires.apart
    c.loop-index.invariant.0 named c.in-Err.ensures.failed c.in-Err.ensures.cause.failed c.give_up_all.ensures.apart c.give_up_all.ensures.kept c.give_up_all.ensures.closed in
    record { apart = none.apart; kept = none.kept; many = tt; begun = tt; fresh = tt; closed = none.closed; cause = none.cause }

pub loop-index-preserved : goal.loop-index-preserved
loop-index-preserved g c =
    let named = next_named c.args.names.now c.loop-index.outs.items c.loop-index.index c.index-names-index.result c.as_str.result.now
    c.loop-index.invariant.1 (omega arith) c.index-names-index.is c.as_str.ensures in
    let next = beginning_more g.R.Out.Sink.written g.R.Out.Sink.faults c.args.names.now c.loop-index.outs.items c.in-Ok-open_out.out _ _ _ _ c.requires.apart
    c.loop-index.invariant.0 named c.in-Ok-open_out.ensures.apart c.in-Ok-open_out.ensures.untouched c.in-Ok-open_out.ensures.opened c.in-Ok-open_out.ensures.empty
    c.in-Ok-open_out.ensures.fresh in
    (subst (λ o. AreBeginning g.R.Out.Sink.written g.R.Out.Sink.faults c.args.names.now o (g.R.Room.seen c.args.room.now) (g.R.Room.seen c.open_out.new.self)) (sym c.push_reserved.ensures.items) next, search rules, search rules)

pub returns-clause-apart : goal.returns-clause-apart
returns-clause-apart g c =
    begun_apart g.R.Out.Sink.written g.R.Out.Sink.faults c.args.names.now c.loop-index.outs.items _ _ c.loop-index.invariant.0 (omega (arith, c.loop-index.invariant.1))

pub returns-clause-begun : goal.returns-clause-begun
returns-clause-begun g c =
    begun_whole g.R.Out.Sink.written g.R.Out.Sink.faults c.args.names.now c.loop-index.outs.items _ _ c.loop-index.invariant.0 (omega (arith, c.loop-index.invariant.1))
