use Rattle.std.proofs.Common.{◌∷◌, ◌∙◌, Err, sym, ap, subst}
use Rattle.std.proofs.lemmas.Result.{err_from_is_err_and}
use Rattle.command_words.specs.Command.{as_reading}
use Rattle.command_words.specs.Asked.{IsAloneAskedBy}
use Rattle.command_words.proofs.Readings.{read_so, unread}
use Rattle.command_words.proofs.looking.behind_reading.Goals as goal

pub returns-in_err-asked : goal.returns-in_err-asked
returns-in_err-asked c =
    let p = err_from_is_err_and c.from_residual.result c.from_residual.ensures.1 in
    subst (λ answer. IsAloneAskedBy answer (c.args.verb.now ∷ c.args.rest.now) (as_reading (c.args.verb.now ∷ c.args.rest.now))) (sym (p.1 ∙ ap Err p.2))
    (unread c.args.verb.now c.args.rest.now c.in_err-asked.field-0.0 c.in_err-asked.ensures)

pub returns : goal.returns
returns c =
    subst (λ answer. IsAloneAskedBy answer (c.args.verb.now ∷ c.args.rest.now) (as_reading (c.args.verb.now ∷ c.args.rest.now))) (sym c.ok_or.ensures.value)
    (read_so c.args.verb.now c.args.rest.now c.in_ok-asked.asked c.unheld.result c.in_ok-asked.ensures c.unheld.ensures)
