use Rattle.std.proofs.Common.{rules, ◌≡◌, false}
use Rattle.std.proofs.lemmas.Bool.{both_ways}
use Rattle.std.proofs.lemmas.Result.{err_from_is_err_and}
use Rattle.entry_history.proofs.ReadOld.{no_old_code, no_old_written, no_old_item, old_begun}
use Rattle.entry_history.proofs.old.read_entry.Goals as goal

pub returns-in_err-library-clause-bad : goal.returns-in_err-library-clause-bad
returns-in_err-library-clause-bad c =
    let head = c.in-Some.head in
    let p = err_from_is_err_and c.from_residual.result c.from_residual.ensures.1 in
    rw (p.1, p.2)
    (no_old_code c.args.bytes.now head.library.now head.written.now head.rest.now head.loader head.ordinal _ c.in-Some.ensures.head c.in_err-library.ensures.bad)

pub returns-in_err-item-clause-bad : goal.returns-in_err-item-clause-bad
returns-in_err-item-clause-bad c =
    let head = c.in-Some.head in
    let none = rw c.in_ok-library.ensures.library at c.in_err-item.ensures.bad in
    let p = err_from_is_err_and c.from_residual-in_err-item.result c.from_residual-in_err-item.ensures.1 in
    rw (p.1, p.2)
    (no_old_written c.args.bytes.now head.library.now head.written.now head.rest.now head.loader head.ordinal _ c.in-Some.ensures.head none)

pub returns-then-not-is_old-clause-bad : goal.returns-then-not-is_old-clause-bad
returns-then-not-is_old-clause-bad c =
    let head = c.in-Some.head in
    let made = c.in_ok-item.item in
    let no : c.in_ok-is_old.is_old ≡ false = search rules in
    let is = rw c.in_ok-library.ensures.library at c.in_ok-item.ensures.entry in
    no_old_item c.args.bytes.now head.library.now head.written.now head.rest.now head.loader head.ordinal made c.in-Some.ensures.head c.in_ok-item.ensures.read is
    (λ item. both_ways _ no (c.in_ok-is_old.ensures.1 item))

pub returns-clause-read : goal.returns-clause-read
returns-clause-read c =
    let head = c.in-Some.head in
    let made = c.in_ok-item.item in
    let is = rw c.in_ok-library.ensures.library at c.in_ok-item.ensures.entry in
    let taken = rw c.in_ok-library.ensures.library at c.in_ok-item.ensures.taken in
    old_begun c.args.bytes.now head.library.now head.written.now head.rest.now head.loader head.ordinal made c.in-Some.ensures.head c.in_ok-library.ensures.code
    c.in_ok-item.ensures.ordinal c.in_ok-item.ensures.read taken is (c.in_ok-is_old.ensures.0 (search rules))
