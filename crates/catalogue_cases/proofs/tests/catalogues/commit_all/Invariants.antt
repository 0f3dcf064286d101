use Rattle.std.proofs.Common.{◌≡◌, []}
use Rattle.catalogue_cases.proofs.tests.catalogues.commit_all.Given as goal

abbrev pub invariant-loop-piece : goal.invariant-loop-piece
invariant-loop-piece g l = l.core.staged ≡ []
