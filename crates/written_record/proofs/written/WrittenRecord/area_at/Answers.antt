use Rattle.std.proofs.Common.{sym, ap, option_map}
use Rattle.iso2709_record.specs.Written.{field_data}
use Rattle.written_record.proofs.Parts.{area_there}
use Rattle.written_record.proofs.written.WrittenRecord.area_at.Goals as goal

pub returns-in-Some : goal.returns-in-Some
returns-in-Some c = area_there _ _ _ _ c.in-Some.ensures

pub returns-in-None : goal.returns-in-None
returns-in-None c = sym (ap (option_map field_data) c.in-None.ensures)
