use Rattle.std.proofs.Common.{◌≡◌, List, subst}
use Rattle.std.specs.List.{IsDistinct, list_any}
use Rattle.marc_types.specs.Order.{same_key}
use Rattle.marc_types.specs.declared.form.Form.{Form}
use Rattle.marc_types.specs.declared.key.Key.{Key}
use Rattle.form_index.specs.Index.{Indexed, IsInOrder}
use Rattle.form_index.specs.declared.among.Among.TheVariants.{All}
use Rattle.form_index.specs.declared.candidates.Candidates.{Candidates}
use Rattle.catalogue_rules.specs.Choice.{is_established}
use Rattle.catalogue_rules.specs.State.{State, linkable_authorities}
use Rattle.catalogue_tables.specs.Choosing.{TellsState}
use Rattle.catalogue_tables.specs.Rows.{IsTold, TellsRows, rows_among}
use Rattle.linking_laws.specs.Tables.{IndexRow}
use Rattle.catalogue_tables.proofs.Rowed.{tells_rows}
use Rattle.catalogue_tables.proofs.Standings.{established_told, told_heading}
use Rattle.catalogue_tables.proofs.tables.CatalogueTables.is_established.Goals as goal

-- what is told of a form, where the answer has this shape
told_by : (names : List Form) (x : Indexed) (form : Form) (answer shape : Candidates)
    → ((keys : List Key) (rows : List IndexRow) → IsDistinct same_key keys → TellsRows All names keys x rows → IsInOrder keys x → IsTold keys rows form answer)
    → answer ≡ shape → (keys : List Key) (s : State) → TellsState names keys x s → told_heading shape ≡ list_any (is_established form) (linkable_authorities s)
told_by names x form answer shape told is keys s tells =
    let all = linkable_authorities s in
    let rows = tells_rows names keys x s All tells.distinct tells.in_order.ascend tells.tells in
    established_told keys all form shape
    (subst (IsTold keys (rows_among All all) form) is (told keys (rows_among All all) tells.distinct rows tells.tells.ordered))

pub returns-in-Established : goal.returns-in-Established
returns-in-Established c =
    told_by c.args.self.now.forms c.args.self.now.index c.args.form.now c.candidates.result _ c.candidates.ensures.told c.in-Established.is

pub returns-in-SeeFrom : goal.returns-in-SeeFrom
returns-in-SeeFrom c =
    told_by c.args.self.now.forms c.args.self.now.index c.args.form.now c.candidates.result _ c.candidates.ensures.told c.in-SeeFrom.is

pub returns-in-Nobody : goal.returns-in-Nobody
returns-in-Nobody c =
    told_by c.args.self.now.forms c.args.self.now.index c.args.form.now c.candidates.result _ c.candidates.ensures.told c.in-Nobody.is
