use Rattle.std.proofs.Common.{◌∙◌, sym, subst}
use Rattle.std.proofs.lemmas.Result.{on_ok_weaker, on_err_weaker}
use Rattle.numbering.specs.Pages.{with_row_under}
use Rattle.form_index.specs.Listed.{SameLists, SteppedAt, lists_in, no_list, with_held}
use Rattle.form_index.proofs.Indexing.{on_err}
use Rattle.form_index.proofs.Paging.{flat_same}
use Rattle.form_index.proofs.Stepping.{stays_in, step_after, step_in}
use Rattle.form_index.proofs.lists.hold_at.Goals as goal

pub returns-in_err-reach-clause-err : goal.returns-in_err-reach-clause-err
returns-in_err-reach-clause-err c = on_err c.from_residual.result (flat_same no_list c.args.lists.now c.reach.new.self c.reach.ensures.same)

pub returns-clause-ok : goal.returns-clause-ok
returns-clause-ok c =
    on_ok_weaker c.hold.result
    (λ is. step_after c.args.form (with_held c.args.number) (lists_in c.args.lists.now) (lists_in c.reach.new.self) (lists_in (with_row_under c.reach.new.self c.args.form c.hold.new.self))
    (flat_same no_list c.args.lists.now c.reach.new.self c.reach.ensures.same)
    (subst (λ l. SteppedAt c.args.form (with_held c.args.number) (lists_in c.reach.new.self) (lists_in (with_row_under c.reach.new.self c.args.form l))) (sym is)
    (step_in c.reach.new.self c.args.form (with_held c.args.number) c.row_mut.result.now (sym c.row_mut.ensures.value))))
    c.hold.ensures.ok

pub returns-clause-err : goal.returns-clause-err
returns-clause-err c =
    on_err_weaker c.hold.result
    (λ is form.
    subst (λ l. SameLists (lists_in c.reach.new.self) (lists_in (with_row_under c.reach.new.self c.args.form l))) (sym is)
    (stays_in c.reach.new.self c.args.form c.row_mut.result.now (sym c.row_mut.ensures.value)) form
    ∙ flat_same no_list c.args.lists.now c.reach.new.self c.reach.ensures.same form)
    c.hold.ensures.err
