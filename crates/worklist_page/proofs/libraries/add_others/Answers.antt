use Rattle.std.proofs.Common.{refl}
use Rattle.worklist_page.proofs.Rows.{shown_as}
use Rattle.worklist_page.proofs.libraries.add_others.Goals as goal

pub returns : goal.returns
returns c = shown_as _ _ _ _ _ _ refl c.in_ok-others.ensures c.in_ok-add_shares.ensures
