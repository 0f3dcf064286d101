use Rattle.std.proofs.Common.{arith}
use Rattle.std.proofs.lemmas.Option.{slice_get_past}
use Rattle.written_record.proofs.Parts.{entry_found}
use Rattle.written_record.proofs.written.WrittenRecord.entry.Goals as goal

pub field_of-requires-clause-sound : goal.field_of-requires-clause-sound
field_of-requires-clause-sound c = c.parts.ensures.holds.sound

pub returns-then-field-layout : goal.returns-then-field-layout
returns-then-field-layout c =
    entry_found _ _ _ _ _ c.parts.ensures.holds (omega (arith, c.parts.ensures.count))
    c.field_of.ensures.tag c.field_of.ensures.area

pub returns-else-field-layout : goal.returns-else-field-layout
returns-else-field-layout c =
    slice_get_past c.args.self.now.fields c.args.field (omega (arith, c.parts.ensures.count))
