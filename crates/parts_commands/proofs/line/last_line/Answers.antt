use Rattle.parts_commands.proofs.LastLines.{found_last}
use Rattle.parts_commands.proofs.line.last_line.Goals as goal

pub returns-in-Some-clause-last : goal.returns-in-Some-clause-last
returns-in-Some-clause-last c = found_last c.args.bytes.now c.saturating_sub-end.result c.in-Some.at c.saturating_sub-end.ensures c.in-Some.ensures
