use Rattle.browsing_commands.proofs.Gathered.{ArePagesSoFar}
use Rattle.browsing_commands.proofs.gathering.pages_of.Given as goal

abbrev pub invariant-loop-page : goal.invariant-loop-page
invariant-loop-page g l = ArePagesSoFar l.least l.next l.writer.taken l.pages.items
