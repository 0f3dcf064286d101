use Rattle.std.proofs.Common.{rules}
use Rattle.std.proofs.lemmas.Result.{err_from_is_err_and}
use Rattle.checkpoint.proofs.Keying.{no_key_there, key_there, no_key_begins}
use Rattle.checkpoint.proofs.keys.read_optional_key.Goals as goal

pub returns-then-not-there-clause-read : goal.returns-then-not-there-clause-read
returns-then-not-there-clause-read c = no_key_there c.args.bytes.now c.args.there (search rules)

pub returns-in_err-key-clause-bad : goal.returns-in_err-key-clause-bad
returns-in_err-key-clause-bad c =
    let p = err_from_is_err_and c.from_residual.result c.from_residual.ensures.1 in
    rw (p.1, p.2) (no_key_begins c.args.bytes.now c.args.there _ (search rules) c.in_err-key.ensures.bad)

pub returns-clause-read : goal.returns-clause-read
returns-clause-read c =
    rw c.in_ok-tied.ensures (key_there c.args.bytes.now c.in_ok-key.rest.now c.args.there c.in_ok-key.key (search rules) c.in_ok-key.ensures.read)
