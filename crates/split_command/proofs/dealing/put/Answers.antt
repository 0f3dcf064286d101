use Rattle.std.proofs.Common.{◌-◌, get_or, ap, arith}
use Rattle.std.proofs.lemmas.Result.{on_ok_weaker, on_err_weaker}
use Rattle.split_command.proofs.Dealt.{dealt_place, fault_place}
use Rattle.split_command.proofs.dealing.put.Goals as goal

pub returns-clause-dealt : goal.returns-clause-dealt
returns-clause-dealt g c =
    let place = c.args.share - c.args.first in
    on_ok_weaker c.write_all.result
    (λ wrote. dealt_place g.K.Sink.written g.K.Sink.faults c.args.share c.args.piece.now c.args.first c.args.outs.now
    (get_or c.args.outs.now place c.index-outs-place.result) c.write_all.new.self
    (omega arith) (omega arith) (ap (λ d. get_or c.args.outs.now place d) c.index-outs-place.is) wrote c.write_all.ensures.cause.later)
    c.write_all.ensures.bytes

pub returns-clause-fault : goal.returns-clause-fault
returns-clause-fault g c =
    let place = c.args.share - c.args.first in
    on_err_weaker c.write_all.result
    (fault_place g.K.Sink.written g.K.Sink.faults c.args.outs.now place (get_or c.args.outs.now place c.index-outs-place.result) c.write_all.new.self
    (omega arith) (ap (λ d. get_or c.args.outs.now place d) c.index-outs-place.is))
    c.write_all.ensures.cause.failed
