use Rattle.std.proofs.Common.{◌∙◌}
use Rattle.catalogue_rules.specs.State.{linkable_authorities}
use Rattle.catalogue_tables.specs.Rows.{rows_among}
use Rattle.catalogue_tables.proofs.Picked.{told_choice}
use Rattle.catalogue_tables.proofs.Rowed.{tells_rows}
use Rattle.catalogue_tables.proofs.tables.CatalogueTables.by_form.Goals as goal

pub returns : goal.returns
returns c = λ keys s tells.
    let rows = tells_rows c.args.self.now.forms keys c.args.self.now.index s c.args.among tells.distinct tells.in_order.ascend tells.tells in
    c.chosen_among.ensures
    ∙ told_choice keys tells.distinct c.args.whole c.args.among (linkable_authorities s) c.args.form.now c.candidates.result
    (c.candidates.ensures.told keys (rows_among c.args.among (linkable_authorities s)) tells.distinct rows tells.tells.ordered)
