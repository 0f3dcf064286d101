use Rattle.iso2709_record.proofs.Directory.{length_digits}
use Rattle.iso2709_record.proofs.layout.length_at.Goals as goal

pub number-requires-clause-digits : goal.number-requires-clause-digits
number-requires-clause-digits c = rw c.entry_at.ensures.bytes (length_digits _ _ c.requires.good)
