use Rattle.std.proofs.Common.{rules}
use Rattle.std.proofs.lemmas.Result.{err_from_is_err_and}
use Rattle.checkpoint.proofs.Lists.{none_left, some_left}
use Rattle.checkpoint.proofs.Rowing.{no_rows_yet, one_more_row, no_more_rows, all_rows, row_shorter}
use Rattle.checkpoint.proofs.rows.read_rows.Goals as goal

pub loop-rest-init : goal.loop-rest-init
loop-rest-init c = no_rows_yet c.args.bytes.now _ (search rules)

pub returns-in_err-row-clause-bad : goal.returns-in_err-row-clause-bad
returns-in_err-row-clause-bad c =
    let p = err_from_is_err_and c.from_residual.result c.from_residual.ensures.1 in
    rw (p.1, p.2)
    (no_more_rows c.args.bytes.now c.loop-rest.rows.items c.loop-rest.rest.now _ c.loop-rest.invariant (some_left _ _ c.is_empty.ensures (search rules)) c.in_err-row.ensures.bad)

pub loop-rest-preserved : goal.loop-rest-preserved
loop-rest-preserved c =
    rw c.in_ok-push.ensures.items
    (one_more_row c.args.bytes.now c.loop-rest.rows.items c.in_ok-row.row c.loop-rest.rest.now c.in_ok-row.behind.now c.loop-rest.invariant
    (some_left _ _ c.is_empty.ensures (search rules)) c.in_ok-row.ensures.read)

pub loop-rest-smaller : goal.loop-rest-smaller
loop-rest-smaller c = row_shorter c.loop-rest.rest.now c.in_ok-row.behind.now c.in_ok-row.row c.in_ok-row.ensures.read

pub returns-clause-read : goal.returns-clause-read
returns-clause-read c = all_rows c.args.bytes.now c.loop-rest.rows.items c.loop-rest.rest.now c.loop-rest.invariant (none_left _ _ c.is_empty.ensures (search rules))
