use Rattle.durable_catalogue.proofs.Answered.{unfound_disk}
use Rattle.durable_catalogue.proofs.opening.begin_log.Goals as goal

pub returns-in-Err-clause-refused : goal.returns-in-Err-clause-refused
returns-in-Err-clause-refused g c limits =
    let seen = g.D.Disk.seen in
    unfound_disk limits (seen c.args.disk) (seen c.in-Err.failed.0) c.in-Err.failed.1 c.open_fault.result c.open_fault.ensures c.in-Err.ensures.unfound
