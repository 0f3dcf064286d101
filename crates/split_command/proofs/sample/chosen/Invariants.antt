use Rattle.split_command.proofs.Chosen.{AreChosen}
use Rattle.split_command.proofs.sample.chosen.Given as goal

abbrev pub invariant-loop-part : goal.invariant-loop-part
invariant-loop-part l = AreChosen l.fn.keys l.bounds.items l.fn.parts l.part
