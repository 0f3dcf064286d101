use Rattle.std.proofs.Common.{◌≡◌, ◌++◌, take}
use Rattle.std.specs.List.{flat_map}
use Rattle.match_report.specs.Numbers.{isbns_of_field, lccns_of_field}
use Rattle.match_report.proofs.fields.numbers.Given as goal

abbrev pub invariant-loop-field : goal.invariant-loop-field
invariant-loop-field l = l.found.items ≡ flat_map isbns_of_field (take l.field-index l.field-items)

abbrev pub invariant-loop-field-2 : goal.invariant-loop-field-2
invariant-loop-field-2 l = l.found.items ≡ flat_map isbns_of_field l.rec.fields ++ flat_map lccns_of_field (take l.field-index l.field-items)
