use Rattle.std.proofs.Common.{arith}
use Rattle.catalogue_rules.specs.Settle.{state_of}
use Rattle.holdings_export.proofs.Written.{attached_few, waiting_few, bool_few}
use Rattle.holdings_export.proofs.counts.count.Goals as goal

pub overflow_add-counts : goal.overflow_add-counts
overflow_add-counts c =
    let few = attached_few (state_of c.args.core.now.history) c.args.shelf.now in
    let one = bool_few _ _ c.from.ensures in
    omega (arith, few, one, c.loop-key.invariant.attached, c.len-holdings.ensures.count, c.len-holdings.ensures.fits)

pub overflow_add-counts-in-loop-key : goal.overflow_add-counts-in-loop-key
overflow_add-counts-in-loop-key c =
    let few = waiting_few (state_of c.args.core.now.history) c.args.shelf.now in
    let one = bool_few _ _ c.from-in-loop-key.ensures in
    omega (arith, few, one, c.loop-key.invariant.waiting, c.len-holdings.ensures.count, c.len-holdings.ensures.fits)
