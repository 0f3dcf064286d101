use Rattle.std.proofs.Common.{◌∙◌, arith}
use Rattle.written_record.proofs.Rewritten.{fields_length-take}
use Rattle.written_record.proofs.written.WrittenRecord.start_at.Goals as goal

pub start_of-requires-clause-sound : goal.start_of-requires-clause-sound
start_of-requires-clause-sound c = c.parts.ensures.holds.sound

pub returns-clause-value : goal.returns-clause-value
returns-clause-value c = c.start_of.ensures.value ∙ c.parts.ensures.holds.starts _ c.requires

pub returns-clause-within : goal.returns-clause-within
returns-clause-within c =
    omega (arith, c.start_of.ensures.value ∙ c.parts.ensures.holds.starts _ c.requires, fields_length-take c.args.self.now.fields c.args.field)
