use Rattle.std.proofs.Common.{subst}
use Rattle.marc_types.specs.Order.{same_form}
use Rattle.numbering.specs.Numbers.{is_known, number_of}
use Rattle.form_index.specs.Candidates.{IsAnswer}
use Rattle.catalogue_tables.proofs.Ranked.{answer_told, known_number, nobody_told, unknown_number}
use Rattle.catalogue_tables.proofs.tables.CatalogueTables.candidates.Goals as goal

pub returns-in-Some-clause-told : goal.returns-in-Some-clause-told
returns-in-Some-clause-told c = λ keys rows distinct tells ordered.
    answer_told c.args.among c.args.self.now.forms c.args.form.now keys c.args.self.now.index rows distinct tells ordered c.candidates.result
    (subst (λ n. IsAnswer c.args.among n c.args.self.now.index c.candidates.result)
    (known_number (is_known same_form c.args.self.now.forms c.args.form.now) c.in-Some.number (number_of same_form c.args.self.now.forms c.args.form.now) c.in-Some.ensures)
    c.candidates.ensures)

pub returns-in-None-clause-told : goal.returns-in-None-clause-told
returns-in-None-clause-told c = λ keys rows distinct tells ordered.
    nobody_told c.args.among c.args.self.now.forms c.args.form.now keys c.args.self.now.index rows distinct tells
    (unknown_number (is_known same_form c.args.self.now.forms c.args.form.now) (number_of same_form c.args.self.now.forms c.args.form.now) c.in-None.ensures)
