use Rattle.std.proofs.Common.{◌∷◌, length, sym, ap, subst, ◌∙◌}
use Rattle.command_words.specs.Command.{asked_of}
use Rattle.command_words.specs.Asked.{IsAskedBy}
use Rattle.command_words.proofs.Commands.{no_words}
use Rattle.command_words.proofs.Requests.{asks, unasks}
use Rattle.command_words.proofs.words.request.Goals as goal

pub returns-in_default-clause-unasked : goal.returns-in_default-clause-unasked
returns-in_default-clause-unasked c = no_words c.args.words.now (sym (ap length c.behind_large.ensures) ∙ c.in_default.ensures.cases)

pub returns-clause-asked : goal.returns-clause-asked
returns-clause-asked c =
    let rest = c.in-Some.rest.now in
    let verb = c.as_str.result.now in
    let behind = sym c.behind_large.ensures ∙ c.in-Some.ensures.cases.0 ∙ ap (λ word. word ∷ rest) (sym c.as_str.ensures) in
    asks c.args.words.now verb rest behind c.asked.result
    (subst (λ large. IsAskedBy c.asked.result rest (asked_of large (verb ∷ rest))) c.is_large.ensures c.asked.ensures)

pub returns-clause-unasked : goal.returns-clause-unasked
returns-clause-unasked c =
    let rest = c.in-Some.rest.now in
    let verb = c.as_str.result.now in
    let behind = sym c.behind_large.ensures ∙ c.in-Some.ensures.cases.0 ∙ ap (λ word. word ∷ rest) (sym c.as_str.ensures) in
    unasks c.args.words.now verb rest behind c.asked.result
    (subst (λ large. IsAskedBy c.asked.result rest (asked_of large (verb ∷ rest))) c.is_large.ensures c.asked.ensures)
