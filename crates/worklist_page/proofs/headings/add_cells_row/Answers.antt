use Rattle.std.proofs.Common.{[], ◌++◌}
use Rattle.worklist_page.specs.declared.names.Element.TheVariants as tag
use Rattle.worklist_page.specs.Tables.{cell, number_cell, row_name}
use Rattle.worklist_page.proofs.Adding.{round}
use Rattle.worklist_page.proofs.headings.add_cells_row.Goals as goal

pub returns : goal.returns
returns c =
    let cells = c.args.cells.now in
    round _ _ _ _ tag.Tr []
    (row_name cells.heading ++ cell cells.state ++ cell cells.kind ++ number_cell cells.count ++ cell cells.candidates ++ cell cells.candidate_headings)
    c.in_ok-start.ensures c.in_ok-add_cells.ensures c.in_ok-end.ensures
