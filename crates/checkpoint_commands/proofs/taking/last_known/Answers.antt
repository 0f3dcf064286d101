use Rattle.checkpoint_commands.proofs.Taken.{not_newest, point_known}
use Rattle.checkpoint_commands.proofs.taking.last_known.Goals as goal

pub returns-in-One-clause-untaken : goal.returns-in-One-clause-untaken
returns-in-One-clause-untaken c frames is =
    (not_newest c.args.version c.in-One.is, (c.in-Parts.so_far.last, point_known frames c.args.known c.in-Parts.so_far c.in-Parts.is is))
