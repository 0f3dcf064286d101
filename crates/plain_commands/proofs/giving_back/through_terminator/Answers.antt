use Rattle.plain_commands.proofs.GivenBack.{through_found, through_none}
use Rattle.plain_commands.proofs.giving_back.through_terminator.Goals as goal

pub returns-in-Some : goal.returns-in-Some
returns-in-Some c = through_found c.args.bytes.now c.in-Some.at c.in-Some.ensures

pub returns-in-None : goal.returns-in-None
returns-in-None c = through_none c.args.bytes.now c.in-None.ensures
