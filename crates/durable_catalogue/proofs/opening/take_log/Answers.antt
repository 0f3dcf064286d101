use Rattle.durable_catalogue.proofs.Answered.{taken_log, faulted_disk}
use Rattle.durable_catalogue.proofs.opening.take_log.Goals as goal

pub returns-in-Ok-clause-taken : goal.returns-in-Ok-clause-taken
returns-in-Ok-clause-taken g c before frames found =
    let was = c.in-Ok.ensures in
    taken_log frames _ _ _ _ _ _ _ found (was.crash before frames found) (was.recovered before frames found) was.later

pub returns-in-Err-clause-refused : goal.returns-in-Err-clause-refused
returns-in-Err-clause-refused g c before frames limits found =
    let was = c.in-Err.ensures in
    faulted_disk frames _ _ _ _ _ limits found (was.crash before frames found) was.later was.cause
