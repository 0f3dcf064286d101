use Rattle.std.proofs.Common.{rules, ◌≡◌, false}
use Rattle.point_verification.specs.Verifying.{NoRoom}
use Rattle.point_verification.proofs.Fronts.{none_own, other_own}
use Rattle.point_verification.proofs.judging.own_of.Goals as goal

-- there is no checkpoint
pub returns-in_default-clause-not_own : goal.returns-in_default-clause-not_own
returns-in_default-clause-not_own c = none_own c.args.entries.now c.args.last (search rules)

-- there is no memory to compare it
pub returns-in_default-is_own-clause-not_own : goal.returns-in_default-is_own-clause-not_own
returns-in_default-is_own-clause-not_own c = NoRoom

-- it is of no front
pub returns-then-not-own-clause-not_own : goal.returns-then-not-own-clause-not_own
returns-then-not-own-clause-not_own c =
    let refused : c.in-Ok.own ≡ false = search rules in
    other_own c.args.entries.now c.args.last c.in-Some.last c.in-Ok.own c.in-Some.is c.in-Ok.ensures refused
