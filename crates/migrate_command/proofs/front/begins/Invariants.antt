use Rattle.migrate_command.proofs.Fronts.{AreSame}
use Rattle.migrate_command.proofs.front.begins.Given as goal

abbrev pub invariant-loop-at : goal.invariant-loop-at
invariant-loop-at l = AreSame l.history l.items l.at
