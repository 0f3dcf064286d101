use Rattle.entry_history.specs.Reading.{AreReadSoFar}
use Rattle.entry_history.proofs.payload.read_entries.Given as goal

abbrev pub invariant-loop-done : goal.invariant-loop-done
invariant-loop-done l = AreReadSoFar l.fn.run l.fn.loader l.fn.library l.fn.count l.fn.bytes l._done l.items.items l.rest
