use Rattle.std.proofs.Common.{sym}
use Rattle.written_record.proofs.Parts.{spells, field_there}
use Rattle.written_record.proofs.written.WrittenRecord.field_at.Goals as goal

pub field_from-requires : goal.field_from-requires
field_from-requires c = spells _ _ _ _ c.in-Some.ensures

pub returns-in_ok-field_from-in-Some : goal.returns-in_ok-field_from-in-Some
returns-in_ok-field_from-in-Some c = field_there _ _ _ _ _ c.in-Some.ensures c.in_ok-field_from-in-Some.ensures

pub returns-in-None : goal.returns-in-None
returns-in-None c = sym c.in-None.ensures
