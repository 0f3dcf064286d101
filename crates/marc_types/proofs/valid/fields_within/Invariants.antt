use Rattle.std.proofs.Common.{◌≡◌, ◌+◌, ◌≤◌, drop}
use Rattle.marc_types.specs.Valid.{fields_size}
use Rattle.marc_types.proofs.valid.fields_within.Given as goal

abbrev pub invariant-loop-field : goal.invariant-loop-field
invariant-loop-field l =
    (l.rest + fields_size l.fields ≡ 1000000 + fields_size (drop l.field-index l.fields)) × (l.rest ≤ 1000000)
