use Rattle.link_table.specs.Table.{links}
use Rattle.catalogue_tables.proofs.Linked.{takes_if}
use Rattle.catalogue_tables.proofs.tables.CatalogueTables.take_link.Goals as goal

pub returns-clause-some : goal.returns-clause-some
returns-clause-some c =
    takes_if c.take.result (links c.args.self.now.links) (links c.take.new.self) c.take.ensures.some c.take.ensures.undone c.take.ensures.taken
