use Rattle.checkpoint.proofs.Sizing.{sized_there, no_size, too_short}
use Rattle.checkpoint.proofs.lengths.sized.Goals as goal

pub returns-in_err-len-clause-none : goal.returns-in_err-len-clause-none
returns-in_err-len-clause-none c = rw c.from_residual.ensures (no_size c.args.bytes.now c.in_err-len.ensures.none)

pub returns-in_err-part-clause-none : goal.returns-in_err-part-clause-none
returns-in_err-part-clause-none c =
    rw c.from_residual-in_err-part.ensures
    (too_short c.args.bytes.now c.in_ok-len.behind.now c.in_ok-len.len c.in_ok-len.ensures.found c.in_ok-len.ensures.fits c.in_err-part.ensures.cases)

pub returns-clause-found : goal.returns-clause-found
returns-clause-found c =
    let split = c.in_ok-part.ensures.cases in
    sized_there c.args.bytes.now c.in_ok-len.behind.now c.in_ok-part.part.now c.in_ok-part.rest.now c.in_ok-len.len c.in_ok-len.ensures.found split.1 split.2 split.3
