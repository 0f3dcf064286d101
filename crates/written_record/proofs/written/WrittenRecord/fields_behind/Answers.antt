use Rattle.written_record.proofs.Parts.{field_here}
use Rattle.written_record.proofs.Rewritten.{behind_there}
use Rattle.written_record.proofs.written.WrittenRecord.fields_behind.Goals as goal

pub returns : goal.returns
returns c =
    let e = c.parts.ensures.holds.entries c.args.field c.requires in
    rw (c.parts.ensures.bytes, c.start_at-start.ensures.value, c.field_len_at-len.ensures.value e.field e.there)
    (behind_there _ _ _ _ e.field c.requires (field_here _ _ _ _ e) c.parts.ensures.base)
