use Rattle.outside.proofs.Fronts.{front_then}
use Rattle.ambiguity_report.proofs.report.write_all_awaits.Goals as goal

pub returns-clause-front : goal.returns-clause-front
returns-clause-front g c = λ s are.
    front_then _ _ _ _ _ (rw are.authorities at c.in_ok-write_awaits.ensures.bytes) (rw are.bibliographic at c.write_awaits-2.ensures.front)
