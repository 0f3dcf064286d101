use Rattle.std.proofs.Common.{◌∙◌, ap}
use Rattle.catalogue_rules.specs.State.{State}
use Rattle.postings.proofs.Errors.{on_err}
use Rattle.linking_laws.specs.Commits.{placed_by}
use Rattle.linked_store.proofs.Brought.{number_kept}
use Rattle.linked_store.proofs.Fielded.{ahead_then}
use Rattle.linked_store.proofs.store.LinkedStore.place.Goals as goal

pub returns-in_err-kept-clause-ahead : goal.returns-in_err-kept-clause-ahead
returns-in_err-kept-clause-ahead c = c.rows_for.ensures.unchanged.ahead

pub returns-in_err-rows-clause-ahead : goal.returns-in_err-rows-clause-ahead
returns-in_err-rows-clause-ahead c = c.rows_for.ensures.unchanged.ahead

pub put-requires-clause-number : goal.put-requires-clause-number
put-requires-clause-number c =
    number_kept c.args.item.now.class c.args.self.now.keys c.rows_for.new.self.keys c.args.item.now.key c.args.number c.rows_for.ensures.unchanged.ahead.keys.keep c.requires.number

pub returns-clause-ok : goal.returns-clause-ok
returns-clause-ok c = c.in_ok-put.ensures.ok ∙ ap (λ (s : State). placed_by c.args.item.now.class s c.args.item.now) c.rows_for.ensures.unchanged.state

pub returns-in_err-put-clause-err : goal.returns-in_err-put-clause-err
returns-in_err-put-clause-err c = on_err c.from_residual-in_err-put.result (c.in_err-put.ensures.err ∙ c.rows_for.ensures.unchanged.state)

pub returns-in_err-put-clause-ahead : goal.returns-in_err-put-clause-ahead
returns-in_err-put-clause-ahead c = ahead_then c.args.self.now c.rows_for.new.self c.put.new.self c.rows_for.ensures.unchanged.ahead c.put.ensures.ahead

pub returns-clause-ahead : goal.returns-clause-ahead
returns-clause-ahead c = ahead_then c.args.self.now c.rows_for.new.self c.put.new.self c.rows_for.ensures.unchanged.ahead c.put.ensures.ahead
