use Rattle.std.proofs.lemmas.Result.{err_from_is_err_and}
use Rattle.durable_catalogue.proofs.Loads.{committed_one, uncommitted_one}
use Rattle.durable_catalogue.proofs.loading.commit_one.Goals as goal

pub returns-clause-core : goal.returns-clause-core
returns-clause-core g c = committed_one c.args.core.now c.args.item c.requires c.commit.new.self c.in_ok-commit.ensures.history

pub returns-in_err-commit-clause-fault : goal.returns-in_err-commit-clause-fault
returns-in_err-commit-clause-fault g c =
    let p = err_from_is_err_and c.from_residual.result c.from_residual.ensures.1 in
    rw (p.1, p.2) (uncommitted_one c.args.core.now c.args.item c.requires c.in_err-commit.field-0.0 c.in_err-commit.ensures.fault)
