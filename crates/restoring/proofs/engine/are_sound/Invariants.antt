use Rattle.restoring.proofs.Sounding.{AreSoundUpTo}
use Rattle.restoring.proofs.engine.are_sound.Given as goal

abbrev pub invariant-loop-row : goal.invariant-loop-row
invariant-loop-row l = AreSoundUpTo l.rows l.row-index
