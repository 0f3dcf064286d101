use Rattle.std.proofs.Common.{◌∙◌}
use Rattle.ambiguity_report.proofs.beside.write_record.Goals as goal

pub returns-clause-bytes : goal.returns-clause-bytes
returns-clause-bytes g c = rw (c.deref.ensures.value ∙ c.in-Ok.ensures) at c.write_fields.ensures.bytes

pub returns-clause-front : goal.returns-clause-front
returns-clause-front g c = rw (c.deref.ensures.value ∙ c.in-Ok.ensures) at c.write_fields.ensures.front
