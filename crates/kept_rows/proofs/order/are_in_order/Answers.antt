use Rattle.std.proofs.Common.{rules, arith, ◌≡◌, ◌∙◌, ◌-◌, sym, true, false}
use Rattle.kept_rows.proofs.Adjacent.{last_in_order, broken_order, order_kept}
use Rattle.kept_rows.proofs.order.are_in_order.Goals as goal

pub returns-then-not-stands_before : goal.returns-then-not-stands_before
returns-then-not-stands_before c =
    let no : c.stands_before.result ≡ false = search rules in
    broken_order c.args.rows.now (c.loop-place.place - 1) c.loop-place.place _ _ _ (omega (arith, c.loop-place.auto.place)) (omega (arith, c.loop-place-test.true))
    c.index-rows-place.is c.index-rows-place-in-loop-place.is (sym c.stands_before.ensures ∙ no) c.loop-place.invariant

pub loop-place-preserved : goal.loop-place-preserved
loop-place-preserved c =
    let yes : c.stands_before.result ≡ true = search rules in
    order_kept c.args.rows.now (c.loop-place.place - 1) c.loop-place.place _ _ _ (omega (arith, c.loop-place.auto.place)) (omega (arith, c.loop-place-test.true))
    c.index-rows-place.is c.index-rows-place-in-loop-place.is (sym c.stands_before.ensures ∙ yes) c.loop-place.invariant

pub returns : goal.returns
returns c = last_in_order c.args.rows.now (c.loop-place.place - 1) _ (omega (arith, c.loop-place-test.false, c.loop-place.auto.place)) c.loop-place.invariant
