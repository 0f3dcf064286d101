use Rattle.std.proofs.Common.{◌≡◌, ◌++◌, take}
use Rattle.heading_fields.specs.Numbers.{unnumbered}
use Rattle.heading_fields.proofs.numbers.append_unnumbered.Given as goal

abbrev pub invariant-loop-subfield : goal.invariant-loop-subfield
invariant-loop-subfield l = l.out.items ≡ l.fn.out.items ++ unnumbered l.key (take l.subfield-index l.subfields)
