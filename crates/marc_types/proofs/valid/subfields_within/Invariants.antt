use Rattle.std.proofs.Common.{◌≡◌, ◌+◌, ◌≤◌, drop}
use Rattle.marc_types.specs.Valid.{subfields_size}
use Rattle.marc_types.proofs.valid.subfields_within.Given as goal

abbrev pub invariant-loop-subfield : goal.invariant-loop-subfield
invariant-loop-subfield l =
    (l.rest + subfields_size l.subfields ≡ l.budget + subfields_size (drop l.subfield-index l.subfields))
    × (l.rest ≤ 1000000)
