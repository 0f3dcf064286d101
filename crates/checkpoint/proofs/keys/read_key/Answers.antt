use Rattle.std.proofs.lemmas.Result.{err_from_is_err_and}
use Rattle.checkpoint.proofs.Keying.{no_proper_key, key_begins}
use Rattle.checkpoint.proofs.keys.read_key.Goals as goal

pub returns-in_err-key-clause-bad : goal.returns-in_err-key-clause-bad
returns-in_err-key-clause-bad c =
    let parts = c.in-Some.parts in
    let p = err_from_is_err_and c.from_residual.result c.from_residual.ensures.1 in
    rw (p.1, p.2)
    (no_proper_key c.args.bytes.now parts.code.now parts.number.now parts.rest.now _ c.in-Some.ensures.found c.in_err-key.ensures.bad)

pub returns-clause-read : goal.returns-clause-read
returns-clause-read c =
    let parts = c.in-Some.parts in
    key_begins c.args.bytes.now parts.code.now parts.number.now parts.rest.now c.in_ok-key.key c.in-Some.ensures.found c.in_ok-key.ensures.key c.in_ok-key.ensures.proper
