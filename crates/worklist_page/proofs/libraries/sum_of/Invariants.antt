use Rattle.std.proofs.Common.{◌≡◌, take}
use Rattle.std.specs.Prelude.{fold}
use Rattle.worklist_page.specs.Shares.{no_shares, together}
use Rattle.worklist_page.proofs.libraries.sum_of.Given as goal

abbrev pub invariant-loop-rank : goal.invariant-loop-rank
invariant-loop-rank l = l.so_far ≡ fold (λ sum r. together sum r.shares) no_shares (take l.rank-index l.ranks)
