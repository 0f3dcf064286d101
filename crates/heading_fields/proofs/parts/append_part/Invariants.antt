use Rattle.std.proofs.Common.{◌≡◌, ◌++◌, take, filter}
use Rattle.heading_fields.specs.Parts.{is_part}
use Rattle.heading_fields.proofs.parts.append_part.Given as goal

abbrev pub invariant-loop-subfield : goal.invariant-loop-subfield
invariant-loop-subfield l = l.out.items ≡ l.fn.out.items ++ filter (is_part l.whole l.kind) (take l.subfield-index l.region)
