use Rattle.std.proofs.Common.{rules, ◌≡◌, false}
use Rattle.std.proofs.lemmas.Bool.{both_ways}
use Rattle.std.proofs.lemmas.Result.{err_from_is_err_and}
use Rattle.entry_history.proofs.ReadOld.{holds_old, held_old, empty_holds_none, holds_no_old, so_many_old}
use Rattle.entry_history.proofs.old.read_payload.Goals as goal

pub returns-in_default-clause-bad : goal.returns-in_default-clause-bad
returns-in_default-clause-bad c = empty_holds_none c.args.payload.now c.in_default.ensures.cases

pub returns-then-not-is_count-clause-bad : goal.returns-then-not-is_count-clause-bad
returns-then-not-is_count-clause-bad c =
    let no : c.is_count.result ≡ false = search rules in
    λ entries h.
    both_ways _ no (c.is_count.ensures.1 (held_old c.args.payload.now c.in-Some.bytes.now c.in-Some.count.now entries c.in-Some.ensures.cases.0 h).0)

pub returns-in_err-items-clause-bad : goal.returns-in_err-items-clause-bad
returns-in_err-items-clause-bad c =
    let p = err_from_is_err_and c.from_residual.result c.from_residual.ensures.1 in
    rw (p.1, p.2)
    (holds_no_old c.args.payload.now c.in-Some.bytes.now c.in-Some.count.now _ c.in-Some.ensures.cases.0 c.in_err-items.ensures.bad)

pub returns-clause-holds : goal.returns-clause-holds
returns-clause-holds c =
    holds_old c.args.payload.now c.in-Some.bytes.now c.in-Some.count.now c.in_ok-items.items.items c.in-Some.ensures.cases.0 (c.is_count.ensures.0 (search rules)) c.in_ok-items.ensures.read

pub returns-clause-few : goal.returns-clause-few
returns-clause-few c =
    so_many_old c.args.payload.now c.in-Some.bytes.now c.in-Some.count.now c.in_ok-items.items.items c.in-Some.ensures.cases.0 c.in_ok-items.ensures.read
