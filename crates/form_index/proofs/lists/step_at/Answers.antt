use Rattle.std.proofs.Common.{sym, ap, subst}
use Rattle.std.specs.Prelude.{is_some}
use Rattle.numbering.specs.Pages.{with_row_under}
use Rattle.form_index.specs.Listed.{SteppedAt, lists_in, stepped}
use Rattle.form_index.proofs.Stepping.{order_at, order_in, step_in, step_out, step_stays}
use Rattle.form_index.proofs.lists.step_at.Goals as goal

pub step-requires-clause-ascends : goal.step-requires-clause-ascends
step-requires-clause-ascends c = order_at c.args.keys.now c.args.lists.now c.args.form c.in-Some.list.now c.requires.ordered (sym c.in-Some.ensures.value)

pub returns-in-Some-clause-stepped : goal.returns-in-Some-clause-stepped
returns-in-Some-clause-stepped c =
    let step = stepped c.args.keys.now c.args.number c.args.step in
    subst (λ l. SteppedAt c.args.form step (lists_in c.args.lists.now) (lists_in (with_row_under c.args.lists.now c.args.form l))) (sym c.step.ensures.stepped)
    (step_in c.args.lists.now c.args.form step c.in-Some.list.now (sym c.in-Some.ensures.value))

pub returns-in-Some-clause-ordered : goal.returns-in-Some-clause-ordered
returns-in-Some-clause-ordered c =
    order_in c.args.keys.now c.args.lists.now c.args.form c.step.new.self (ap is_some (sym c.in-Some.ensures.value)) c.requires.ordered c.step.ensures.ascends

pub returns-in_default-clause-stepped : goal.returns-in_default-clause-stepped
returns-in_default-clause-stepped c =
    step_out c.args.lists.now c.args.form (stepped c.args.keys.now c.args.number c.args.step) (step_stays c.args.keys.now c.args.number c.args.step) (sym c.in_default.ensures.value)
