use Rattle.checkpoint.proofs.Keying.{no_code, no_number, both_parts}
use Rattle.checkpoint.proofs.keys.key_parts.Goals as goal

pub returns-in_err-code-clause-none : goal.returns-in_err-code-clause-none
returns-in_err-code-clause-none c = rw c.from_residual.ensures (no_code c.args.bytes.now c.in_err-code.ensures.none)

pub returns-in_err-number-clause-none : goal.returns-in_err-number-clause-none
returns-in_err-number-clause-none c =
    rw c.from_residual-in_err-number.ensures
    (no_number c.args.bytes.now c.in_ok-code.code.now c.in_ok-code.behind.now c.in_ok-code.ensures.found c.in_err-number.ensures.none)

pub returns-clause-found : goal.returns-clause-found
returns-clause-found c =
    both_parts c.args.bytes.now c.in_ok-code.code.now c.in_ok-number.number.now c.in_ok-code.behind.now c.in_ok-number.rest.now c.in_ok-code.ensures.found
    c.in_ok-number.ensures.found
