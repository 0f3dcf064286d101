use Rattle.std.proofs.Common.{◌≡◌, ◌++◌, take}
use Rattle.std.specs.List.{filter_map}
use Rattle.match_report.specs.Numbers.{lccn_of_subfield}
use Rattle.match_report.proofs.fields.add_lccns.Given as goal

abbrev pub invariant-loop-subfield : goal.invariant-loop-subfield
invariant-loop-subfield l = l.found.items ≡ l.fn.found.items ++ filter_map lccn_of_subfield (take l.subfield-index l.subfield-items)
