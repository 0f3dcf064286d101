use Rattle.catalogue_tables.proofs.Standings.{next_at}
use Rattle.catalogue_tables.proofs.standing.copied_keys.Goals as goal

pub loop-number-preserved : goal.loop-number-preserved
loop-number-preserved c =
    next_at c.args.keys.now c.args.numbers.now c.loop-number.number-index _ c.loop-number.found.items c.copy_at.new.found.items
    c.loop-number-test.true c.loop-number.invariant c.in_ok-copy_at.ensures
