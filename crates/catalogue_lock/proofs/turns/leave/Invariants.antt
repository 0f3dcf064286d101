use Rattle.std.proofs.Common.{drop}
use Rattle.catalogue_lock.proofs.turns.leave.Given as goal

-- what the turn added is what the object's history has beyond the count before it
abbrev pub ghosts-raise : goal.ghosts-raise
ghosts-raise g a = record { added = drop a.before (g.O.Object.history a.object.now) }
