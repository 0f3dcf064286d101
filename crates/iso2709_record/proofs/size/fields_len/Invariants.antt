use Rattle.std.proofs.Common.{◌≡◌, ◌+◌, ◌≤◌, drop}
use Rattle.marc_types.specs.Valid.{fields_size}
use Rattle.iso2709_record.specs.Written.{fields_length}
use Rattle.iso2709_record.proofs.size.fields_len.Given as goal

abbrev pub invariant-loop-field : goal.invariant-loop-field
invariant-loop-field l = (l.len + fields_length (drop l.field-index l.fields) ≡ fields_length l.fields)
    × (fields_length l.fields ≤ 1024993)
    × (fields_size (drop l.field-index l.fields) ≤ 1000000)
