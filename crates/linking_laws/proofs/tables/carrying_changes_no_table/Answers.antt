use Rattle.linking_laws.proofs.Agreeing.{carry_agrees}
use Rattle.linking_laws.proofs.tables.carrying_changes_no_table.Goals as goal

pub returns : goal.returns
returns c = carry_agrees
