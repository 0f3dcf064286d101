use Rattle.std.proofs.Common.{take}
use Rattle.form_index.specs.Listed.{Stepped, lists_in, with_held}
use Rattle.form_index.proofs.lists.hold_each.Given as goal

abbrev pub invariant-loop-i : goal.invariant-loop-i
invariant-loop-i l = Stepped (take l.i l.forms) (with_held l.number) (lists_in l.fn.lists) (lists_in l.lists)
