use Rattle.std.proofs.Common.{◌≡◌, true, refl, arith}
use Rattle.migrate_command.proofs.Fronts.{one_same, all_same, there_is}
use Rattle.migrate_command.proofs.front.begins.Goals as goal

pub loop-at-preserved : goal.loop-at-preserved
loop-at-preserved c =
    let same : c.in_ok-same.same ≡ true = let test = c.if-not-same.false in grind arith in
    let e = c.in-Some.entry.now in
    let item = c.index-items-at.result in
    let found = c.in-Some.ensures.lookup in
    let there = there_is c.args.history.now c.loop-at.at e item found.3.0 found.1 (c.in_ok-same.ensures.0 same) in
    one_same c.args.history.now c.args.items.now c.loop-at.at c.loop-at.invariant item c.loop-at-test.true c.index-items-at.is there

pub returns : goal.returns
returns c =
    let past = c.loop-at-test.false in
    (λ t. all_same c.args.history.now c.args.items.now c.loop-at.at c.loop-at.invariant (omega (arith, past)), λ begins. refl)
