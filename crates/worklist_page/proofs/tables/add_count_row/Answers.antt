use Rattle.worklist_page.proofs.Adding.{round}
use Rattle.std.proofs.Common.{[], ◌++◌}
use Rattle.worklist_page.specs.declared.names.Element.TheVariants as tag
use Rattle.worklist_page.specs.Tables.{number, row_name}
use Rattle.worklist_page.proofs.tables.add_count_row.Goals as goal

pub returns : goal.returns
returns c = round _ _ _ _ tag.Tr [] (row_name c.args.name.now ++ number c.args.count) c.in_ok-start.ensures c.in_ok-add_count_cells.ensures c.in_ok-end.ensures
