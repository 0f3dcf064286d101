use Rattle.std.proofs.Common.{◌≡◌, true, length}
use Rattle.iso2709_record.specs.Faults.{codes_follow, starts_subfield}
use Rattle.iso2709_record.proofs.marks.codes_follow.Given as goal

abbrev pub invariant-loop-code : goal.invariant-loop-code
invariant-loop-code l = (codes_follow l.rest ≡ codes_follow l.bytes) × (starts_subfield l.rest ≡ true)

abbrev pub decreases-loop-code : goal.decreases-loop-code
decreases-loop-code l = length l.rest
