use Rattle.std.proofs.Common.{◌≡◌, ◌+◌, ◌≤◌, drop}
use Rattle.marc_types.specs.Valid.{subfields_size}
use Rattle.catalogue_rules.specs.Valid.{other_subfields}
use Rattle.kept_rows.proofs.reach.others_len.Given as goal

abbrev pub invariant-loop-subfield : goal.invariant-loop-subfield
invariant-loop-subfield l =
    (l.len + subfields_size (other_subfields l.key (drop l.subfield-index l.subfields)) ≡ subfields_size (other_subfields l.key l.subfields))
    × (l.len + subfields_size (drop l.subfield-index l.subfields) ≤ 1000000)
