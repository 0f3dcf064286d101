use Rattle.browsing_commands.proofs.Outcomes.{browses_told}
use Rattle.browsing_commands.proofs.browsing.begin.Goals as goal

pub returns-in-Err-clause-ends : goal.returns-in-Err-clause-ends
returns-in-Err-clause-ends g c = browses_told _ _ _ _ _ _ c.in-Err.ensures.ends c.in-Err.ensures.told
