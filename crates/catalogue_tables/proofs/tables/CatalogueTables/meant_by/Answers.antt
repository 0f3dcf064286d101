use Rattle.std.proofs.Common.{ℕ, List, subst, sym}
use Rattle.catalogue_rules.specs.Choice.{by_form}
use Rattle.catalogue_rules.specs.State.{linkable_authorities}
use Rattle.catalogue_tables.specs.Choosing.{authorities_among}
use Rattle.catalogue_tables.specs.Meant.{AreMeant}
use Rattle.catalogue_tables.specs.Rows.{rows_among}
use Rattle.catalogue_tables.proofs.Rowed.{tells_rows}
use Rattle.catalogue_tables.proofs.Standings.{told_meant}
use Rattle.catalogue_tables.proofs.tables.CatalogueTables.meant_by.Goals as goal

pub returns : goal.returns
returns c = λ whole keys s tells.
    let all = linkable_authorities s in
    let rows = tells_rows c.args.self.now.forms keys c.args.self.now.index s c.args.among tells.distinct tells.in_order.ascend tells.tells in
    subst (λ (l : List ℕ). AreMeant keys (by_form (authorities_among c.args.among all) whole c.args.form.now) l) (sym c.numbers_in.ensures)
    (told_meant keys whole c.args.among all c.args.form.now c.candidates.result
    (c.candidates.ensures.told keys (rows_among c.args.among all) tells.distinct rows tells.tells.ordered))
