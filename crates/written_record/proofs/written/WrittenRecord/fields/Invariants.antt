use Rattle.std.proofs.Common.{◌≡◌, take}
use Rattle.written_record.proofs.written.WrittenRecord.fields.Given as goal

abbrev pub invariant-loop-field : goal.invariant-loop-field
invariant-loop-field l = l.fields.items ≡ take l.field l.self.fields
