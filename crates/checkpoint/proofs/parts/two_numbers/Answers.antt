use Rattle.std.proofs.Common.{rules}
use Rattle.checkpoint.proofs.Lists.{none_left, some_left}
use Rattle.checkpoint.proofs.Sorts.{two_there, no_first, no_second, no_third}
use Rattle.checkpoint.proofs.parts.two_numbers.Goals as goal

pub returns-in_err-first-clause-none : goal.returns-in_err-first-clause-none
returns-in_err-first-clause-none c = rw c.from_residual.ensures (no_first c.args.bytes.now c.in_err-first.ensures.none)

pub returns-in_err-second-clause-none : goal.returns-in_err-second-clause-none
returns-in_err-second-clause-none c =
    rw c.from_residual-in_err-second.ensures
    (no_second c.args.bytes.now c.in_ok-first.behind.now c.in_ok-first.first c.in_ok-first.ensures.found c.in_err-second.ensures.none)

pub returns-then-is_empty-clause-found : goal.returns-then-is_empty-clause-found
returns-then-is_empty-clause-found c =
    two_there c.args.bytes.now c.in_ok-first.behind.now c.in_ok-second.rest.now c.in_ok-first.first c.in_ok-second.second c.in_ok-first.ensures.found
    c.in_ok-second.ensures.found (none_left _ _ c.is_empty.ensures (search rules))

pub returns-else-is_empty-clause-none : goal.returns-else-is_empty-clause-none
returns-else-is_empty-clause-none c =
    no_third c.args.bytes.now c.in_ok-first.behind.now c.in_ok-second.rest.now c.in_ok-first.first c.in_ok-second.second c.in_ok-first.ensures.found
    c.in_ok-second.ensures.found (some_left _ _ c.is_empty.ensures (search rules))
