use Rattle.std.proofs.Common.{◌≡◌, chars, length}
use Rattle.naco_form.specs.Comparison.{trim_end}
use Rattle.naco_form.proofs.pen.trim_end.Given as goal

abbrev pub invariant-loop : goal.invariant-loop
invariant-loop l = trim_end (chars l.out) ≡ trim_end (chars l.initial.out)

abbrev pub decreases-loop : goal.decreases-loop
decreases-loop l = length l.out
