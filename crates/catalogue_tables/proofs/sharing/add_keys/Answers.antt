use Rattle.catalogue_tables.specs.Sharing.{shown_keys}
use Rattle.catalogue_tables.proofs.Shared.{added_next}
use Rattle.catalogue_tables.proofs.sharing.add_keys.Goals as goal

pub loop-number-preserved : goal.loop-number-preserved
loop-number-preserved c = λ k.
    added_next c.args.keys.now c.args.numbers.now c.loop-number.number-index _ (shown_keys c.args.found.now.keys) (shown_keys c.loop-number.found.keys)
    (shown_keys c.add_at.new.found.keys) k c.loop-number-test.true (c.loop-number.invariant k) (c.in_ok-add_at.ensures k)
