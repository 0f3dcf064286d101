use Rattle.worklist_page.proofs.Adding.{then}
use Rattle.worklist_page.proofs.headings.add_cells.Goals as goal

pub returns : goal.returns
returns c = then _ _ _ _ _ (then _ _ _ _ _ (then _ _ _ _ _ (then _ _ _ _ _ (then _ _ _ _ _ c.in_ok-add_name.ensures c.in_ok-add_state.ensures) c.in_ok-add_kind.ensures) c.in_ok-add_count.ensures) c.in_ok-add_candidates.ensures) c.in_ok-add_candidate_names.ensures
