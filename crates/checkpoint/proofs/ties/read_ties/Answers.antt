use Rattle.std.proofs.Common.{rules, arith}
use Rattle.std.proofs.lemmas.Result.{err_from_is_err_and}
use Rattle.checkpoint.proofs.Tying.{no_ties_yet, one_more_tie, no_more_ties, all_ties}
use Rattle.checkpoint.proofs.ties.read_ties.Goals as goal

pub loop-done-init : goal.loop-done-init
loop-done-init c = no_ties_yet c.args.count c.args.bytes.now _ (search rules)

pub returns-in_err-tie-clause-bad : goal.returns-in_err-tie-clause-bad
returns-in_err-tie-clause-bad c =
    let p = err_from_is_err_and c.from_residual-in_err-tie.result c.from_residual-in_err-tie.ensures.1 in
    rw (p.1, p.2)
    (no_more_ties c.args.count c.args.bytes.now c.loop-done._done c.loop-done.ties.items c.loop-done.rest.now _ c.loop-done.invariant c.loop-done-test.true c.in_err-tie.ensures.bad)

pub loop-done-preserved : goal.loop-done-preserved
loop-done-preserved c =
    rw c.in_ok-push.ensures.items
    (one_more_tie c.args.count c.args.bytes.now c.loop-done._done c.loop-done.ties.items c.in_ok-tie.tie c.loop-done.rest.now c.in_ok-tie.behind.now
    c.loop-done.invariant c.loop-done-test.true c.in_ok-tie.ensures.read)

pub returns-clause-read : goal.returns-clause-read
returns-clause-read c =
    all_ties c.args.count c.args.bytes.now c.loop-done._done c.loop-done.ties.items c.loop-done.rest.now c.loop-done.invariant
    (omega (arith, c.loop-done-test.false, c.loop-done.auto._done-end))
