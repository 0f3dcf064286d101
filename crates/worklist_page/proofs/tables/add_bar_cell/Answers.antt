use Rattle.worklist_page.proofs.Adding.{round}
use Rattle.std.proofs.Common.{[]}
use Rattle.worklist_page.specs.declared.names.Element.TheVariants as tag
use Rattle.worklist_page.specs.Bars.{bar}
use Rattle.worklist_page.specs.Tables.{bar_of}
use Rattle.worklist_page.proofs.tables.add_bar_cell.Goals as goal

pub returns : goal.returns
returns c = round _ _ _ _ tag.Td [] (bar (bar_of c.args.shares)) c.in_ok-start.ensures c.in_ok-add_shares_bar.ensures c.in_ok-end.ensures
