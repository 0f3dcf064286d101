use Rattle.std.proofs.Common.{◌≡◌, ◌≤◌, ◌-◌, All, length}
use Rattle.browse_readers.proofs.writer.make_readers.Given as goal

-- so far there are no more than asked for, and each has seen what was taken
abbrev pub invariant-places : goal.invariant-places
invariant-places g l = (length l.readers.items ≤ l.fn.count) × All (λ reader. reader.known ≡ l.fn.writer.taken) l.readers.items

abbrev pub decreases-places : goal.decreases-places
decreases-places g l = l.fn.count - length l.readers.items
