use Rattle.std.proofs.Common.{◌≡◌}
use Rattle.iso2709_record.specs.Raw.{raw_fields}
use Rattle.iso2709_record.proofs.decoding.fields_of.Given as goal

abbrev pub invariant-loop-entry : goal.invariant-loop-entry
invariant-loop-entry l = l.fields.items ≡ raw_fields l.bytes l.entry
