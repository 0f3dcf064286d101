use Rattle.std.proofs.Common.{◌∙◌, subst}
use Rattle.catalogue_rules.specs.State.{linkable_authorities}
use Rattle.form_index.specs.Candidates.{IsAnswer}
use Rattle.catalogue_tables.specs.Rows.{rows_among}
use Rattle.catalogue_tables.proofs.Picked.{told_choice}
use Rattle.catalogue_tables.proofs.Ranked.{answer_told}
use Rattle.catalogue_tables.proofs.Rowed.{tells_rows}
use Rattle.catalogue_tables.proofs.tables.CatalogueTables.by_number.Goals as goal

pub returns : goal.returns
returns c = λ keys s tells form is.
    let rows = tells_rows c.args.self.now.forms keys c.args.self.now.index s c.args.among tells.distinct tells.in_order.ascend tells.tells in
    c.chosen_among.ensures
    ∙ told_choice keys tells.distinct c.args.whole c.args.among (linkable_authorities s) form c.candidates.result
    (answer_told c.args.among c.args.self.now.forms form keys c.args.self.now.index (rows_among c.args.among (linkable_authorities s)) tells.distinct rows tells.tells.ordered
    c.candidates.result (subst (λ n. IsAnswer c.args.among n c.args.self.now.index c.candidates.result) is.is c.candidates.ensures))
