use Rattle.std.proofs.Common.{◌≡◌, ◌+◌, ◌-◌, ℕ, length}
use Rattle.numbering.specs.Pages.{there}
use Rattle.numbering.proofs.pages.Pages.lengthen.Given as goal

abbrev pub invariant-loop-alloc : goal.invariant-loop-alloc
invariant-loop-alloc g l = (m : ℕ) → there l.self m ≡ there l.fn.self m

abbrev pub decreases-loop-alloc : goal.decreases-loop-alloc
decreases-loop-alloc g l = l.page + 1 - length l.self.pages.items
