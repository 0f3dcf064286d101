use Rattle.written_record.proofs.Rewritten.{before_place}
use Rattle.written_record.proofs.written.WrittenRecord.fields_before.Goals as goal

pub returns : goal.returns
returns c = rw (c.parts.ensures.bytes, c.start_at-start.ensures.value) (before_place _ _ _ _ c.parts.ensures.base)
