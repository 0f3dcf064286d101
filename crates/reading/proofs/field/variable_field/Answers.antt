use Rattle.reading.proofs.Fields.{subfields_there, variable_read}
use Rattle.reading.proofs.field.variable_field.Goals as goal

pub subfields_of-requires : goal.subfields_of-requires
subfields_of-requires c =
    rw c.as_str.ensures
    (subfields_there _ _ _ _ c.requires.variable c.requires.fits c.requires.unended
    (rw c.behind_indicators-behind.ensures at c.in_ok-text.ensures.text))

pub returns-clause-read : goal.returns-clause-read
returns-clause-read c =
    variable_read _ _ _ _ _ c.requires.valid c.requires.variable c.requires.fits
    (rw c.behind_indicators-behind.ensures at c.in_ok-text.ensures.text)
    (rw c.as_str.ensures at c.in_ok-subs.ensures)
