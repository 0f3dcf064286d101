use Rattle.wait_table.specs.Table.{waits}
use Rattle.catalogue_tables.proofs.Waited.{takes_if}
use Rattle.catalogue_tables.proofs.tables.CatalogueTables.take_waiting.Goals as goal

pub returns-clause-some : goal.returns-clause-some
returns-clause-some c =
    takes_if c.take.result (waits c.args.self.now.waits) (waits c.take.new.self) c.take.ensures.some c.take.ensures.undone c.take.ensures.taken
