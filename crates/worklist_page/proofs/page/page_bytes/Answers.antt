use Rattle.worklist_page.proofs.Rows.{shown_page}
use Rattle.worklist_page.proofs.page.page_bytes.Goals as goal

pub returns : goal.returns
returns c =
    shown_page _ _ c.args.engine.now.state _ c.args.brought.now c.in_ok-figures.ensures c.new-page.ensures.items c.in_ok-add_page.ensures
