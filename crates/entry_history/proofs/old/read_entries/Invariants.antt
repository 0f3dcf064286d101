use Rattle.entry_history.specs.Reading.{AreOldSoFar}
use Rattle.entry_history.proofs.old.read_entries.Given as goal

abbrev pub invariant-loop-done : goal.invariant-loop-done
invariant-loop-done l = AreOldSoFar l.fn.count l.fn.bytes l._done l.items.items l.rest
