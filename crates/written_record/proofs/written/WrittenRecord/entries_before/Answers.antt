use Rattle.std.proofs.Common.{arith}
use Rattle.written_record.proofs.Rewritten.{entries_place}
use Rattle.written_record.proofs.written.WrittenRecord.entries_before.Goals as goal

pub returns : goal.returns
returns c = rw c.parts.ensures.bytes (entries_place _ _ _ (omega arith))
