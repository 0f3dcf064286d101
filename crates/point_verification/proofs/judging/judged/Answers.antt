use Rattle.point_verification.specs.Verifying.{OfJournal, OfPoint}
use Rattle.point_verification.proofs.Fronts.{not_own}
use Rattle.point_verification.proofs.judging.judged.Goals as goal

pub returns-in-Err-clause-not_own : goal.returns-in-Err-clause-not_own
returns-in-Err-clause-not_own c = OfJournal c.in-Err.fault c.in-Err.ensures.current c.fault_of_look.ensures c.in-Err.ensures.unopened

pub returns-in-Err-last_of-clause-not_own : goal.returns-in-Err-last_of-clause-not_own
returns-in-Err-last_of-clause-not_own c =
    OfPoint c.in-Ok.entries c.in-Ok.ensures.history c.in-Ok.ensures.within c.in-Err-last_of.fault c.fault_of_look-in-Err-last_of.ensures
    c.in-Err-last_of.ensures.untaken

pub returns-clause-not_own : goal.returns-clause-not_own
returns-clause-not_own c =
    not_own c.args.limits c.args.journal.items c.args.point.items c.in-Ok.entries c.as_slice.result.now c.in-Ok-last_of.last c.own_of.result c.in-Ok.ensures.history
    c.in-Ok.ensures.within c.as_slice.ensures c.in-Ok-last_of.ensures.last c.own_of.ensures.not_own
