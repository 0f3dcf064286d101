use Rattle.std.proofs.Common.{◌≡◌, ◌+◌, drop}
use Rattle.marc_types.specs.Valid.{subfields_size}
use Rattle.entry_record.proofs.access.part_len.Given as goal

abbrev pub invariant-loop-subfield : goal.invariant-loop-subfield
invariant-loop-subfield l = l.len + subfields_size (drop l.subfield-index l.part) ≡ subfields_size l.part
