use Rattle.worklist_page.proofs.Adding.{round}
use Rattle.std.proofs.Common.{[], ◌++◌}
use Rattle.worklist_page.specs.declared.names.Element.TheVariants as tag
use Rattle.worklist_page.specs.Pieces.{element}
use Rattle.worklist_page.specs.Bars.{bar}
use Rattle.worklist_page.specs.Tables.{bar_of, row_name, shares_numbers}
use Rattle.worklist_page.proofs.tables.add_shares.Goals as goal

pub returns : goal.returns
returns c = round _ _ _ _ tag.Tr [] (row_name c.args.name.now ++ shares_numbers c.args.shares ++ element tag.Td (bar (bar_of c.args.shares))) c.in_ok-start.ensures c.in_ok-add_shares_cells.ensures c.in_ok-end.ensures
