use Rattle.std.proofs.Common.{arith}
use Rattle.written_record.proofs.Rewritten.{length_with}
use Rattle.written_record.proofs.written.WrittenRecord.len_with.Goals as goal

pub overflow_add-result : goal.overflow_add-result
overflow_add-result c =
    omega (arith, c.len.ensures, c.requires.small, length_with _ c.args.index c.args.field.now c.args.size _ c.requires.within c.field_len_at.ensures.value c.requires.size)

pub returns : goal.returns
returns c = rw c.len.ensures (length_with _ _ _ _ _ c.requires.within c.field_len_at.ensures.value c.requires.size)
