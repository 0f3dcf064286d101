use Rattle.iso2709_record.proofs.ReadAgain.{written_is_sound}
use Rattle.iso2709_record.proofs.reading_laws.read_again.Goals as goal

pub returns-clause-sound : goal.returns-clause-sound
returns-clause-sound c = written_is_sound _ _ c.args.rec.now.valid c.requires
