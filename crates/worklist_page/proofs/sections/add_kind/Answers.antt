use Rattle.worklist_page.proofs.Rows.{shown_as}
use Rattle.worklist_page.proofs.sections.add_kind.Goals as goal

pub returns : goal.returns
returns c = shown_as _ _ _ _ _ _ c.kind_name-name.ensures c.of_kind-shares.ensures c.in_ok-add_shares.ensures
