use Rattle.std.proofs.Common.{◌≡◌, ◌≤◌, ◌-◌, ℕ, length, slice_index_or}
use Rattle.numbering.proofs.pages.fill.Given as goal

abbrev pub invariant-loop-alloc : goal.invariant-loop-alloc
invariant-loop-alloc g l =
    ((i : ℕ) → slice_index_or l.page.items i g.T.Blank.blank ≡ slice_index_or l.fn.page.items i g.T.Blank.blank) × (length l.fn.page.items ≤ length l.page.items)

abbrev pub decreases-loop-alloc : goal.decreases-loop-alloc
decreases-loop-alloc g l = 1024 - length l.page.items
