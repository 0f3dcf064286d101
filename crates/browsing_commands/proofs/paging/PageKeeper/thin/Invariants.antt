use Rattle.std.proofs.Common.{◌≡◌, length}
use Rattle.browsing_commands.proofs.paging.PageKeeper.thin.Given as goal

abbrev pub invariant-loop-place : goal.invariant-loop-place
invariant-loop-place g l = length l.self.pages.items ≡ length l.initial.self.pages.items
