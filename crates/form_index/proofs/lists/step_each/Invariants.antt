use Rattle.std.proofs.Common.{take}
use Rattle.form_index.specs.Listed.{InOrder, Stepped, lists_in, stepped}
use Rattle.form_index.proofs.lists.step_each.Given as goal

abbrev pub invariant-loop-form : goal.invariant-loop-form
invariant-loop-form l = record {
  done : Stepped (take l.form-index l.forms) (stepped l.keys l.number l.step) (lists_in l.fn.lists) (lists_in l.lists);
  ordered : InOrder l.keys (lists_in l.lists);
}
