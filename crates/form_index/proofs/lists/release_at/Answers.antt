use Rattle.std.proofs.Common.{sym, refl, subst}
use Rattle.numbering.specs.Pages.{with_row_under}
use Rattle.form_index.specs.Listed.{SteppedAt, lists_in, released}
use Rattle.form_index.proofs.Stepping.{step_in, step_out}
use Rattle.form_index.proofs.lists.release_at.Goals as goal

pub returns-in-Some : goal.returns-in-Some
returns-in-Some c =
    subst (λ l. SteppedAt c.args.form (released c.args.number) (lists_in c.args.lists.now) (lists_in (with_row_under c.args.lists.now c.args.form l))) (sym c.release.ensures)
    (step_in c.args.lists.now c.args.form (released c.args.number) c.in-Some.list.now (sym c.in-Some.ensures.value))

pub returns-in_default : goal.returns-in_default
returns-in_default c = step_out c.args.lists.now c.args.form (released c.args.number) refl (sym c.in_default.ensures.value)
