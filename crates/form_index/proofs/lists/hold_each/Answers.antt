use Rattle.std.proofs.Common.{refl, arith}
use Rattle.form_index.specs.Listed.{lists_in, with_held}
use Rattle.form_index.proofs.Stepping.{step_more, taken_once}
use Rattle.form_index.proofs.lists.hold_each.Goals as goal

pub release_each-requires : goal.release_each-requires
release_each-requires c = record { once = taken_once c.args.forms.now c.loop-i.i c.requires }

pub loop-i-preserved : goal.loop-i-preserved
loop-i-preserved c =
    step_more c.args.forms.now (with_held c.args.number) (lists_in c.args.lists.now) (lists_in c.loop-i.lists) (lists_in c.hold_at.new.lists) c.loop-i.i _ c.requires (omega arith) refl
    c.loop-i.invariant c.in_default.ensures.ok
