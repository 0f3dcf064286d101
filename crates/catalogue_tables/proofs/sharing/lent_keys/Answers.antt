use Rattle.catalogue_tables.specs.Sharing.{shown_keys}
use Rattle.catalogue_tables.proofs.Standings.{next_at}
use Rattle.catalogue_tables.proofs.sharing.lent_keys.Goals as goal

pub loop-number-preserved : goal.loop-number-preserved
loop-number-preserved c =
    next_at c.args.keys.now c.args.numbers.now c.loop-number.number-index _ (shown_keys c.loop-number.found.items) (shown_keys c.lend_at.new.found.items)
    c.loop-number-test.true c.loop-number.invariant c.in_ok-lend_at.ensures
