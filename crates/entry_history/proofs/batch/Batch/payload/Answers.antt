use Rattle.std.proofs.Common.{arith}
use Rattle.entry_history.proofs.Batches.{payload_bounded, payload_filled}
use Rattle.entry_history.proofs.batch.Batch.payload.Goals as goal

pub returns-clause-some : goal.returns-clause-some
returns-clause-some c = λ some. omega (arith, payload_filled c.self.inside.items.items c.self.inside.payload.items c.as_slice.result.now c.self.invariant c.as_slice.ensures.value (rw (← c.self.view_is) at some))

pub returns-clause-most : goal.returns-clause-most
returns-clause-most c = payload_bounded c.self.inside.items.items c.self.inside.payload.items c.as_slice.result.now c.self.invariant c.as_slice.ensures.value
