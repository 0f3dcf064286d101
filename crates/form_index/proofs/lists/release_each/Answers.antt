use Rattle.std.proofs.Common.{refl, arith}
use Rattle.form_index.specs.Listed.{lists_in, released}
use Rattle.form_index.proofs.Stepping.{step_more}
use Rattle.form_index.proofs.lists.release_each.Goals as goal

pub loop-form-preserved : goal.loop-form-preserved
loop-form-preserved c =
    step_more c.args.forms.now (released c.args.number) (lists_in c.args.lists.now) (lists_in c.loop-form.lists) (lists_in c.release_at.new.lists) c.loop-form.form-index _ c.requires.once (omega arith) refl
    c.loop-form.invariant c.release_at.ensures
