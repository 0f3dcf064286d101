use Rattle.std.proofs.Common.{length, take}
use Rattle.migrate_command.specs.Fronts.{ArePayloads}
use Rattle.migrate_command.proofs.front.payloads_of_all.Given as goal

abbrev pub invariant-loop-entry : goal.invariant-loop-entry
invariant-loop-entry l =
    goal.iterator-loop-entry.can_next l.entry-iterator ×
    goal.iterator-loop-entry.is_finite l.entry-iterator ×
    ArePayloads (take (length l.yielded) l.fn.entries.items) l.payloads.items
