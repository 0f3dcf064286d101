use Rattle.entry_history.proofs.ReadEntries.{head_made, no_ordinal, no_length, no_record}
use Rattle.entry_history.proofs.entry.entry_head.Goals as goal

pub returns-in_err-ordinal-clause-none : goal.returns-in_err-ordinal-clause-none
returns-in_err-ordinal-clause-none c = rw c.from_residual.ensures (no_ordinal c.args.bytes.now c.in_err-ordinal.ensures.none)

pub returns-in_err-len-clause-none : goal.returns-in_err-len-clause-none
returns-in_err-len-clause-none c =
    rw c.from_residual-in_err-len.ensures (no_length c.args.bytes.now c.in_ok-ordinal.behind.now c.in_ok-ordinal.ordinal c.in_ok-ordinal.ensures.found c.in_err-len.ensures.none)

pub returns-in_err-written-clause-none : goal.returns-in_err-written-clause-none
returns-in_err-written-clause-none c =
    rw c.from_residual-in_err-written.ensures
    (no_record c.args.bytes.now c.in_ok-ordinal.behind.now c.in_ok-len.behind.now c.in_ok-ordinal.ordinal c.in_ok-len.len c.in_ok-ordinal.ensures.found
    c.in_ok-len.ensures.found c.in_err-written.ensures.cases c.in_ok-ordinal.ensures.fits c.in_ok-len.ensures.fits)

pub returns-clause-head : goal.returns-clause-head
returns-clause-head c =
    let split = c.in_ok-written.ensures.cases in
    head_made c.args.bytes.now c.in_ok-ordinal.behind.now c.in_ok-len.behind.now c.in_ok-written.written.now c.in_ok-written.field-0-1.now c.in_ok-ordinal.ordinal
    c.in_ok-len.len c.in_ok-ordinal.ensures.found c.in_ok-len.ensures.found split.1 split.3 split.2 c.in_ok-ordinal.ensures.fits c.in_ok-len.ensures.fits
