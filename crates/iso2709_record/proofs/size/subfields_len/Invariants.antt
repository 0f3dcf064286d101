use Rattle.std.proofs.Common.{◌≡◌, ◌+◌, drop}
use Rattle.marc_types.specs.Valid.{subfields_size}
use Rattle.iso2709_record.proofs.size.subfields_len.Given as goal

abbrev pub invariant-loop-subfield : goal.invariant-loop-subfield
invariant-loop-subfield l = l.len + subfields_size (drop l.subfield-index l.subfields) ≡ subfields_size l.subfields
