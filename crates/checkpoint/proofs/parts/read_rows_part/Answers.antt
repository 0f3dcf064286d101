use Rattle.std.proofs.Common.{rules}
use Rattle.std.proofs.lemmas.Result.{err_from_is_err_and}
use Rattle.checkpoint.proofs.Lists.{none_left, some_left}
use Rattle.checkpoint.proofs.Sorts.{no_rows_there, not_rows, rows_there}
use Rattle.checkpoint.proofs.parts.read_rows_part.Goals as goal

pub returns-then-is_empty-clause-bad : goal.returns-then-is_empty-clause-bad
returns-then-is_empty-clause-bad c = no_rows_there c.args.bytes.now (none_left _ _ c.is_empty.ensures (search rules))

pub returns-in_err-rows-clause-bad : goal.returns-in_err-rows-clause-bad
returns-in_err-rows-clause-bad c =
    let p = err_from_is_err_and c.from_residual.result c.from_residual.ensures.1 in
    rw (p.1, p.2) (not_rows c.args.bytes.now _ c.in_err-rows.ensures.bad)

pub returns-clause-part : goal.returns-clause-part
returns-clause-part c =
    rw c.from_vec.ensures (rows_there c.args.bytes.now c.in_ok-rows.rows.items (some_left _ _ c.is_empty.ensures (search rules)) c.in_ok-rows.ensures.read)
