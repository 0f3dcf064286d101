use Rattle.std.proofs.Common.{◌∙◌, sym, subst, ap}
use Rattle.form_index.specs.Listed.{InOrder, each_of, lists_in, stepped}
use Rattle.form_index.proofs.Stepping.{each_of_is, order_inside, order_shown, step_stays}
use Rattle.form_index.proofs.lists.Lists.step.Goals as goal

pub step_each-requires-clause-ordered : goal.step_each-requires-clause-ordered
step_each-requires-clause-ordered c =
    order_inside c.args.keys.now (lists_in c.self.inside.lists) (subst (InOrder c.args.keys.now) (sym c.self.view_is) c.requires.ordered)

pub returns-clause-stepped : goal.returns-clause-stepped
returns-clause-stepped c =
    each_of_is c.args.forms.now (stepped c.args.keys.now c.args.number c.args.step) (lists_in c.self.inside.lists) (lists_in c.step_each.new.lists) (step_stays c.args.keys.now c.args.number c.args.step)
    c.step_each.ensures.stepped
    ∙ ap (each_of c.args.forms.now (stepped c.args.keys.now c.args.number c.args.step)) c.self.view_is

pub returns-clause-ordered : goal.returns-clause-ordered
returns-clause-ordered c = order_shown c.args.keys.now (lists_in c.step_each.new.lists) c.step_each.ensures.ordered
