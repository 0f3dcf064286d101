use Rattle.std.proofs.Common.{◌≡◌, ◌+◌, ◌≤◌, drop, filter}
use Rattle.marc_types.specs.Valid.{subfields_size}
use Rattle.heading_fields.specs.Parts.{is_part}
use Rattle.kept_rows.proofs.reach.part_len.Given as goal

abbrev pub invariant-loop-subfield : goal.invariant-loop-subfield
invariant-loop-subfield l =
    (l.len + subfields_size (filter (is_part l.whole l.kind) (drop l.subfield-index l.region)) ≡ subfields_size (filter (is_part l.whole l.kind) l.region))
    × (l.len + subfields_size (drop l.subfield-index l.region) ≤ 1000000)
