use Rattle.std.proofs.Common.{refl}
use Rattle.std.proofs.lemmas.Result.{err_from_is_err_and}
use Rattle.checkpoint.proofs.Tying.{no_flags_there, no_such_flags, no_linked_key, no_awaited_key, tie_begins}
use Rattle.checkpoint.proofs.ties.read_tie.Goals as goal

pub returns-in_default-clause-bad : goal.returns-in_default-clause-bad
returns-in_default-clause-bad c = no_flags_there c.args.bytes.now c.in_default.ensures.cases

pub returns-in_default-of_byte-clause-bad : goal.returns-in_default-of_byte-clause-bad
returns-in_default-of_byte-clause-bad c =
    no_such_flags c.args.bytes.now c.in-Some.behind.now c.in-Some.byte.now c.in-Some.ensures.cases.0 c.in_default-of_byte.ensures.none

pub returns-in_err-key-clause-bad : goal.returns-in_err-key-clause-bad
returns-in_err-key-clause-bad c =
    let p = err_from_is_err_and c.from_residual.result c.from_residual.ensures.1 in
    rw (p.1, p.2)
    (no_linked_key c.args.bytes.now c.in-Some.behind.now c.in-Some.byte.now c.in-Some-of_byte.flags _ c.in-Some.ensures.cases.0 c.in-Some-of_byte.ensures.flags
    c.in_err-key.ensures.bad)

pub returns-in_err-awaits-clause-bad : goal.returns-in_err-awaits-clause-bad
returns-in_err-awaits-clause-bad c =
    let p = err_from_is_err_and c.from_residual-in_err-awaits.result c.from_residual-in_err-awaits.ensures.1 in
    rw (p.1, p.2)
    (no_awaited_key c.args.bytes.now c.in-Some.behind.now c.in_ok-key.behind_key.now c.in-Some.byte.now c.in-Some-of_byte.flags c.in_ok-key.key _ c.in-Some.ensures.cases.0
    c.in-Some-of_byte.ensures.flags c.in_ok-key.ensures.read c.in_err-awaits.ensures.bad)

pub returns-clause-read : goal.returns-clause-read
returns-clause-read c =
    tie_begins c.args.bytes.now c.in-Some.behind.now c.in_ok-key.behind_key.now c.in_ok-awaits.rest.now c.in-Some.byte.now c.in-Some-of_byte.flags _ c.in-Some.ensures.cases.0
    c.in-Some-of_byte.ensures.flags c.in_ok-key.ensures.read c.in_ok-awaits.ensures.read refl
