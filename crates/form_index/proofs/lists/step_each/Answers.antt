use Rattle.std.proofs.Common.{refl, arith}
use Rattle.form_index.specs.Listed.{lists_in, stepped}
use Rattle.form_index.proofs.Stepping.{step_more}
use Rattle.form_index.proofs.lists.step_each.Goals as goal

pub loop-form-preserved : goal.loop-form-preserved
loop-form-preserved c = record {
  done =
      step_more c.args.forms.now (stepped c.args.keys.now c.args.number c.args.step) (lists_in c.args.lists.now) (lists_in c.loop-form.lists) (lists_in c.step_at.new.lists) c.loop-form.form-index _ c.requires.once
      (omega arith) refl c.loop-form.invariant.done c.step_at.ensures.stepped;
  ordered = c.step_at.ensures.ordered;
}
