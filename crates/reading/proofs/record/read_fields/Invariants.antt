use Rattle.reading.specs.Answers.{AreFieldsUpTo}
use Rattle.reading.proofs.record.read_fields.Given as goal

abbrev pub invariant-loop-entry : goal.invariant-loop-entry
invariant-loop-entry l = AreFieldsUpTo l.bytes l.entry l.fields.items
