use Rattle.std.proofs.Common.{◌∙◌, [], drop, codes, refl, arith}
use Rattle.parts_commands.proofs.Lines.{from_ambiguous, from_bibliographic, from_linked, from_unlinked, line_parts}
use Rattle.parts_commands.proofs.numbers.totals_in.Goals as goal

pub returns-clause-again : goal.returns-clause-again
returns-clause-again c = λ t small is.
    let a = c.number_behind-authorities.ensures (codes "TOTAL authorities=") (drop 1 (from_bibliographic t)) t.authorities 32 (is ∙ line_parts t) refl
    small.authorities (omega arith) in
    let b = c.number_behind-bibliographic.ensures (codes " bibliographic=") (drop 1 (from_linked t)) t.bibliographic 32 a.1 refl
    small.bibliographic (omega arith) in
    let l = c.number_behind-linked.ensures (codes " linked=") (drop 1 (from_ambiguous t)) t.linked 32 b.1 refl small.linked (omega arith) in
    let m = c.number_behind-ambiguous.ensures (codes " ambiguous=") (drop 1 (from_unlinked t)) t.ambiguous 32 l.1 refl small.ambiguous (omega arith) in
    let u = c.number_behind-unlinked.ensures (codes " unlinked=") [] t.unlinked 10 m.1 refl small.unlinked (omega arith) in
    λ i. record { authorities = a.0 i; bibliographic = b.0 i; linked = l.0 i; ambiguous = m.0 i; unlinked = u.0 i }
