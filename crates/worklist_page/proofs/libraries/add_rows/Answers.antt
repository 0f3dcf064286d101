use Rattle.worklist_page.proofs.Rows.{halves}
use Rattle.worklist_page.proofs.libraries.add_rows.Goals as goal

pub returns : goal.returns
returns c = halves _ _ _ c.args.ranks.now _ _ c.split.ensures.shown c.split.ensures.rest c.in_ok-add_libraries.ensures c.in_ok-add_others.ensures
