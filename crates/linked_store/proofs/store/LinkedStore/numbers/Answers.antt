use Rattle.marc_types.specs.Order.{same_key}
use Rattle.catalogue_tables.proofs.Numbered.{numbers_more}
use Rattle.linked_store.proofs.Fielded.{unchanged_none, unchanged_then}
use Rattle.linked_store.proofs.store.LinkedStore.numbers.Goals as goal

pub returns-in_err-numbers-clause-unchanged : goal.returns-in_err-numbers-clause-unchanged
returns-in_err-numbers-clause-unchanged c = unchanged_none c.args.self.now

pub loop-key-init : goal.loop-key-init
loop-key-init c = (unchanged_none c.args.self.now, record { known = tt; are = c.in_ok-numbers.ensures.items })

pub loop-key-preserved : goal.loop-key-preserved
loop-key-preserved c = (
  unchanged_then c.args.self.now c.loop-key.self c.number.new.self c.loop-key.invariant.0 c.number.ensures.unchanged,
  numbers_more same_key c.loop-key.self.keys.authorities c.number.new.self.keys.authorities c.args.keys.now c.loop-key.key-index c.key-item.result c.loop-key.numbers.items
      c.push.new.self.items c.in_ok-number.number c.number.ensures.unchanged.ahead.keys.keep.authorities c.loop-key-test.true c.key-item.is c.loop-key.invariant.1
      c.in_ok-number.ensures.number c.in_ok-push.ensures.items,
)
