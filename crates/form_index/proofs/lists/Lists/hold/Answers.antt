use Rattle.std.proofs.Common.{◌∙◌, subst}
use Rattle.std.proofs.lemmas.Result.{on_ok_weaker, on_err_weaker}
use Rattle.form_index.specs.Trimmed.{trimmed}
use Rattle.form_index.specs.Listed.{Stepped, is_no_list, lists_in, with_held}
use Rattle.form_index.proofs.Stepping.{same_lists, short_lists, steps_shown}
use Rattle.form_index.proofs.lists.Lists.hold.Goals as goal

pub returns-clause-ok : goal.returns-clause-ok
returns-clause-ok c =
    on_ok_weaker c.hold_each.result
    (λ stepped. subst (λ l. Stepped c.args.forms.now (with_held c.args.number) l (trimmed is_no_list (lists_in c.hold_each.new.lists))) c.self.view_is (steps_shown c.args.forms.now (with_held c.args.number) (lists_in c.self.inside.lists) (lists_in c.hold_each.new.lists) stepped))
    c.hold_each.ensures.ok

pub returns-clause-err : goal.returns-clause-err
returns-clause-err c =
    on_err_weaker c.hold_each.result (λ same. same_lists (lists_in c.self.inside.lists) (lists_in c.hold_each.new.lists) same ∙ c.self.view_is) c.hold_each.ensures.err

pub returns-clause-short : goal.returns-clause-short
returns-clause-short c = short_lists (lists_in c.hold_each.new.lists)
