use Rattle.std.proofs.Common.{◌≡◌, ◌-◌, ◌+◌, ◌<◌, length, rules, ap, arith, length-append}
use Rattle.catalogue_lock.specs.History.{items}
use Rattle.catalogue_lock.proofs.Numbers.{length-items}
use Rattle.catalogue_lock.proofs.Turning.{raises}
use Rattle.catalogue_lock.proofs.turns.raise.Goals as goal

pub fetch_add-requires : goal.fetch_add-requires
fetch_add-requires g c =
    let turn = c.requires.turn in
    let seen = c.args.seat.now.me.0.seen in
    let added = g.D.Adding.added in
    let whole = ap length turn.whole in
    let counted = c.count.ensures in
    let before = c.requires.before in
    let by : c.count.result - c.args.before ≡ length added = omega (arith, whole, counted, before, length-append (items seen) added, length-items seen) in
    let fits : length seen + (c.count.result - c.args.before) < 18446744073709551616 = omega (arith, by, whole, counted, before, length-append (items seen) added, length-items seen, c.count.type_inv) in
    (search rules, search rules, raises _ _ _ _ _ _ added turn.ticket _ turn.running turn.stage turn.single by fits)
