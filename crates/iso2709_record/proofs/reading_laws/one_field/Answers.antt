use Rattle.iso2709_record.proofs.Spellings.{field_once}
use Rattle.iso2709_record.proofs.reading_laws.one_field.Goals as goal

pub returns-clause-once : goal.returns-clause-once
returns-clause-once c = field_once c.args.tag c.args.bytes.now
