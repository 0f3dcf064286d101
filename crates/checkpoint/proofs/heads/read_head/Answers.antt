use Rattle.checkpoint.proofs.Rowing.{no_class_there, no_such_class, no_code_there, no_record_there, head_there}
use Rattle.checkpoint.proofs.heads.read_head.Goals as goal

pub returns-in_err-byte-clause-none : goal.returns-in_err-byte-clause-none
returns-in_err-byte-clause-none c = rw c.from_residual.ensures (no_class_there c.args.bytes.now c.in_err-byte.ensures.cases)

pub returns-in_err-class-clause-none : goal.returns-in_err-class-clause-none
returns-in_err-class-clause-none c =
    rw c.from_residual-in_err-class.ensures
    (no_such_class c.args.bytes.now c.in_ok-byte.behind.now c.in_ok-byte.byte.now c.in_ok-byte.ensures.cases.0 c.in_err-class.ensures.none)

pub returns-in_err-code-clause-none : goal.returns-in_err-code-clause-none
returns-in_err-code-clause-none c =
    rw c.from_residual-in_err-code.ensures
    (no_code_there c.args.bytes.now c.in_ok-byte.behind.now c.in_ok-byte.byte.now c.in_ok-byte.ensures.cases.0 c.in_err-code.ensures.none)

pub returns-in_err-written-clause-none : goal.returns-in_err-written-clause-none
returns-in_err-written-clause-none c =
    rw c.from_residual-in_err-written.ensures
    (no_record_there c.args.bytes.now c.in_ok-byte.behind.now c.in_ok-code.code.now c.in_ok-code.behind_code.now c.in_ok-byte.byte.now c.in_ok-byte.ensures.cases.0
    c.in_ok-code.ensures.found c.in_err-written.ensures.none)

pub returns-clause-head : goal.returns-clause-head
returns-clause-head c =
    head_there c.args.bytes.now c.in_ok-byte.behind.now c.in_ok-code.code.now c.in_ok-code.behind_code.now c.in_ok-written.written.now c.in_ok-written.rest.now
    c.in_ok-byte.byte.now c.in_ok-class.class c.in_ok-byte.ensures.cases.0 c.in_ok-class.ensures.class c.in_ok-code.ensures.found c.in_ok-written.ensures.found
    c.in_ok-written.ensures.fits
