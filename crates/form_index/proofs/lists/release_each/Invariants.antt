use Rattle.std.proofs.Common.{take}
use Rattle.form_index.specs.Listed.{Stepped, lists_in, released}
use Rattle.form_index.proofs.lists.release_each.Given as goal

abbrev pub invariant-loop-form : goal.invariant-loop-form
invariant-loop-form l = Stepped (take l.form-index l.forms) (released l.number) (lists_in l.fn.lists) (lists_in l.lists)
