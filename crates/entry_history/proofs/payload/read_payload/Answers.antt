use Rattle.std.proofs.Common.{rules, ◌≡◌, false}
use Rattle.std.proofs.lemmas.Bool.{both_ways}
use Rattle.std.proofs.lemmas.Result.{err_from_is_err_and}
use Rattle.entry_history.proofs.ReadPayloads.{held, headless, no_code, holds_none, holds_these, so_many_bytes}
use Rattle.entry_history.proofs.payload.read_payload.Goals as goal

pub returns-in_default-clause-bad : goal.returns-in_default-clause-bad
returns-in_default-clause-bad c before extent = headless c.args.payload.now before c.in_default.ensures.none

pub returns-then-not-is_count-clause-bad : goal.returns-then-not-is_count-clause-bad
returns-then-not-is_count-clause-bad c before extent =
    let head = c.in-Some.head in
    let no : c.is_count.result ≡ false = search rules in
    λ entries h.
    both_ways _ no
    (c.is_count.ensures.1 (held c.args.payload.now head.run head.loader head.library.now head.count head.entries.now before entries c.in-Some.ensures.head h).1)

pub returns-then-not-can_follow-clause-bad : goal.returns-then-not-can_follow-clause-bad
returns-then-not-can_follow-clause-bad c before extent =
    let head = c.in-Some.head in
    let no : c.can_follow.result ≡ false = search rules in
    λ entries h.
    both_ways _ no
    ((c.can_follow.ensures before extent).1 (held c.args.payload.now head.run head.loader head.library.now head.count head.entries.now before entries c.in-Some.ensures.head h).0)

pub returns-in_err-library-clause-bad : goal.returns-in_err-library-clause-bad
returns-in_err-library-clause-bad c =
    let head = c.in-Some.head in
    let p = err_from_is_err_and c.from_residual.result c.from_residual.ensures.1 in
    rw (p.1, p.2)
    (λ before extent. no_code c.args.payload.now head.run head.loader head.library.now head.count head.entries.now before _ c.in-Some.ensures.head c.in_err-library.ensures.bad)

pub returns-in_err-items-clause-bad : goal.returns-in_err-items-clause-bad
returns-in_err-items-clause-bad c =
    let head = c.in-Some.head in
    let p = err_from_is_err_and c.from_residual-in_err-items.result c.from_residual-in_err-items.ensures.1 in
    let none = rw c.in_ok-library.ensures.library at c.in_err-items.ensures.bad in
    rw (p.1, p.2) (λ before extent. holds_none c.args.payload.now head.run head.loader head.library.now head.count head.entries.now before _ c.in-Some.ensures.head none)

pub returns-clause-holds : goal.returns-clause-holds
returns-clause-holds c before extent =
    let head = c.in-Some.head in
    let read = rw c.in_ok-library.ensures.library at c.in_ok-items.ensures.read in
    holds_these c.args.payload.now head.run head.loader head.library.now head.count head.entries.now before c.in_ok-items.items.items c.in-Some.ensures.head
    ((c.can_follow.ensures before extent).0 (search rules)) (c.is_count.ensures.0 (search rules)) read

pub returns-clause-few : goal.returns-clause-few
returns-clause-few c =
    let head = c.in-Some.head in
    let read = rw c.in_ok-library.ensures.library at c.in_ok-items.ensures.read in
    so_many_bytes c.args.payload.now head.run head.loader head.library.now head.count head.entries.now c.in_ok-items.items.items c.in-Some.ensures.head read
