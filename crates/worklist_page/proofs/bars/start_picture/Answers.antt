use Rattle.worklist_page.proofs.Adding.{begun, open_end, open_more}
use Rattle.worklist_page.proofs.bars.start_picture.Goals as goal

pub returns : goal.returns
returns c =
    open_end _ _ _ _ _
    (open_more _ _ _ _ _ _ (open_more _ _ _ _ _ _ (open_more _ _ _ _ _ _ (open_more _ _ _ _ _ _ (begun _ _ _ c.in_ok-begin_tag.ensures)
    c.in_ok-add_attribute.ensures) c.in_ok-add_label.ensures) c.in_ok-add_view.ensures) c.in_ok-add_attribute-2.ensures)
    c.in_ok-end_tag.ensures
