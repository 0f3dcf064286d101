use Rattle.std.specs.Prelude.{take}
use Rattle.loader_workers.specs.Counts.{HasCounted}
use Rattle.loader_workers.proofs.counts.Counts.add.Given as goal

abbrev pub invariant-loop-receipt : goal.invariant-loop-receipt
invariant-loop-receipt l = HasCounted l.initial.self l.self (take l.receipt-index l.receipts)
