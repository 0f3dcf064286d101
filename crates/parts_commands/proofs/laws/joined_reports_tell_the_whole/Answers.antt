use Rattle.parts_commands.proofs.Reported.{line_of_whole, none_differs}
use Rattle.parts_commands.proofs.laws.joined_reports_tell_the_whole.Goals as goal

pub returns-clause-line : goal.returns-clause-line
returns-clause-line c = line_of_whole

pub returns-clause-joined : goal.returns-clause-joined
returns-clause-joined c = none_differs
