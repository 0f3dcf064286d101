use Rattle.worklist_page.proofs.Adding.{then}
use Rattle.worklist_page.proofs.sections.add_kinds.Goals as goal

pub returns : goal.returns
returns c = then _ _ _ _ _ (then _ _ _ _ _ (then _ _ _ _ _ (then _ _ _ _ _ (then _ _ _ _ _ (then _ _ _ _ _ (then _ _ _ _ _ c.in_ok-add_kind.ensures c.in_ok-add_kind-2.ensures) c.in_ok-add_kind-3.ensures) c.in_ok-add_kind-4.ensures) c.in_ok-add_kind-5.ensures) c.in_ok-add_kind-6.ensures) c.in_ok-add_kind-7.ensures) c.in_ok-add_kind-8.ensures
