use Rattle.std.proofs.Common.{◌∙◌, ap}
use Rattle.heading_worklist.specs.Counts.{Counted}
use Rattle.worklist_page.proofs.Tops.{not_by_state, same_by_form}
use Rattle.worklist_page.proofs.headings.is_same.Goals as goal

pub returns-then-one-other : goal.returns-then-one-other
returns-then-one-other c =
    same_by_form c.args.one.now c.args.other.now _ _ _ (c.one-2.view_is ∙ ap (λ (v : Counted). v.heading) c.one.view_is)
    (c.other-2.view_is ∙ ap (λ (v : Counted). v.heading) c.other.view_is) c.if-one-other.true c.eq.ensures

pub returns-else-one-other : goal.returns-else-one-other
returns-else-one-other c =
    not_by_state c.args.one.now c.args.other.now _ _ (c.one-2.view_is ∙ ap (λ (v : Counted). v.heading) c.one.view_is)
    (c.other-2.view_is ∙ ap (λ (v : Counted). v.heading) c.other.view_is) c.if-one-other.false
