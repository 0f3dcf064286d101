use Rattle.std.proofs.Common.{◌≡◌, ◌++◌, not, take, filter}
use Rattle.heading_fields.specs.Parts.{is_part}
use Rattle.heading_fields.specs.Numbers.{unnumbered}
use Rattle.heading_fields.proofs.rewriting.append_outside.Given as goal

abbrev pub invariant-loop-subfield : goal.invariant-loop-subfield
invariant-loop-subfield l =
    l.out.items ≡ l.fn.out.items ++ unnumbered l.key (filter (λ s. not (is_part l.whole l.kind s)) (take l.subfield-index l.region))
