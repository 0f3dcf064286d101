use Rattle.worklist_page.proofs.Adding.{round}
use Rattle.std.proofs.Common.{[], ◌++◌}
use Rattle.worklist_page.specs.declared.names.Element.TheVariants as tag
use Rattle.worklist_page.specs.Pieces.{element, words}
use Rattle.std.specs.Fmt.{decimal}
use Rattle.worklist_page.specs.Tables.{number, row_name}
use Rattle.worklist_page.proofs.sections.add_brought_row.Goals as goal

pub returns : goal.returns
returns c = round _ _ _ _ tag.Tr [] (row_name (decimal c.args.bringer.now.run) ++ number c.args.bringer.now.loader ++ element tag.Td (words c.args.bringer.now.library) ++ number c.args.count) c.in_ok-start.ensures c.in_ok-add_brought_cells.ensures c.in_ok-end.ensures
