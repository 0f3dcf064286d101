use Rattle.std.proofs.Common.{◌≡◌, take}
use Rattle.entry_record.specs.Authority.{replacement_numbers}
use Rattle.entry_record.proofs.successor.replacement_numbers.Given as goal

abbrev pub invariant-loop-field : goal.invariant-loop-field
invariant-loop-field l = l.numbers.items ≡ replacement_numbers (take l.field-index l.fields)
